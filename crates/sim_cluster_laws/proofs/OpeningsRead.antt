-- The lines with which a stream of initial events begins are read back.
use Rattle.std.proofs.Common.{◌≤◌, ◌<◌, ◌^◌, ℕ, [], ◌∷◌, true, codes, decimal, refl, sym, subst, arith}
use Rattle.std.specs.List.{AllByRecursion}
use Rattle.std.proofs.lemmas.Fmt.{IsAscii-decimal}
use Rattle.std.proofs.lemmas.Str.{IsUtf8-from_ascii}
use Rattle.json.proofs.Printed.Utf8.{IsUtf8-are_ascii}
use Rattle.serde_json.specs.Data.{Data}
use Rattle.spec_api.specs.declared.kinds.Kind.{Kind}
use Rattle.spec_api.specs.declared.frames.FrameKind.TheVariants.{Added, Bookmark}
use Rattle.spec_api.specs.Frames.{bookmark_data}
use Rattle.spec_api.specs.History.{History, Entries, list, present}
use Rattle.spec_api.specs.Keys.{Key}
use Rattle.spec_api.specs.Kinds as kinds
use Rattle.spec_api.specs.Kinds.{api_version}
use Rattle.spec_api.specs.Reached.{IsParsed, IsReached}
use Rattle.spec_api.specs.Streams.{initial, initial_end, AreEventsWithBookmarks}
use Rattle.spec_api.specs.WatchReplies.{opening_lines}
use Rattle.spec_api.proofs.NoFloatsRead.{has_float-is_body}
use Rattle.spec_laws.specs.SentLaws.{whole}
use Rattle.spec_laws.proofs.Limited.{limited}
use Rattle.spec_laws.proofs.Looks.{none_at}
use Rattle.spec_laws.proofs.Parsed.{version_ascii, kind_ascii}
use Rattle.spec_laws.proofs.SentChanges.{read_body}
use Rattle.reflector.specs.Laws.{IsReadBack, IsReadWithin}
use Rattle.reflector.proofs.Opened.{IsOf, all_listed, back}
use Rattle.sim_cluster_laws.proofs.FramesRead.{frame_back}

closing_parsed : (k : Kind) (r : ℕ) → r < 2 ^ 64 → IsParsed (bookmark_data k true r)
closing_parsed k r low = (
  (refl, (refl, tt)),
  IsUtf8-are_ascii (api_version k) (version_ascii k),
  (
    (refl, tt),
    IsUtf8-are_ascii (kinds.kind_text k) (kind_ascii k),
    (
      tt,
      (
        (refl, tt),
        (tt, IsUtf8-are_ascii (codes "true") refl, tt, IsUtf8-are_ascii (codes "k8s.io/initial-events-end") refl),
        (tt, IsUtf8-from_ascii (decimal r) (IsAscii-decimal r low), tt, IsUtf8-are_ascii (codes "resourceVersion") refl),
        IsUtf8-are_ascii (codes "annotations") refl,
      ),
      tt,
      IsUtf8-are_ascii (codes "metadata") refl,
    ),
    IsUtf8-are_ascii (codes "kind") refl,
  ),
  IsUtf8-are_ascii (codes "apiVersion") refl,
)

pub closing_back : (k : Kind) (r : ℕ) → r < 2 ^ 64 → IsReadWithin k (initial_end r)
closing_back k r low = frame_back Bookmark (bookmark_data k true r) (closing_parsed k r low) refl

pub object_back : (k : Kind) (a : ℕ) (m : Key × Data) → IsOf k a m → IsReadWithin k (initial m.0 m.1)
object_back k a m here =
    let stored = here.1.1 in frame_back Added m.1 stored.parsed (has_float-is_body m.1 (read_body m.0.kind m.1 m.1 stored.kept.reads))

all_within : (k : Kind) (a : ℕ) (ms : Entries) → a < 2 ^ 64 → AllByRecursion (IsOf k a) ms → AllByRecursion (IsReadWithin k) (opening_lines true a ms)
all_within k a [] low all = (closing_back k a low, tt)
all_within k a (m ∷ ms) low all = (object_back k a m all.0, all_within k a ms low all.1)

pub opening_back : (h : History) (k : Kind) (a : ℕ) → IsReached h → a ≤ present h → AllByRecursion (IsReadBack k) (opening_lines true a (list h (whole k) a))
opening_back h k a reached le =
    let few : present h ≤ 9007199254740991 = (limited h reached).1 in
    back h k a a [] reached (omega arith) le (subst (λ cs. AreEventsWithBookmarks a a cs []) (sym (none_at h (whole k) a)) tt)
    (all_within k a (list h (whole k) a) (omega (arith, le, few)) (all_listed h k a reached))
