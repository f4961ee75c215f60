-- What can have happened at a server: requests that were answered one after another, whoever asked, and compactions between them.
use Rattle.std.specs.Prelude.{◌≡◌, ◌≤◌, ◌<◌, ◌^◌, ℕ, pos, negsuc, List, [], ◌∷◌, ◌++◌, length, true}
use Rattle.std.specs.Ordering.{nat_cmp}
use Rattle.std.specs.declared.cmp.Ordering.TheVariants.{Less}
use Rattle.std.specs.Cmp.Lexicographic.{slice_cmp}
use Rattle.std.specs.Str.{IsUtf8}
use Rattle.serde_json.specs.Data.{Num, unsigned, negative, float, Data, number, string, array, object, Items, no_items, item, Members, no_members, member}
use Rattle.spec_api.specs.State.History.{History, compaction, present}
use Rattle.spec_api.specs.Texts.Keys.{is_namespace}
use Rattle.spec_api.specs.Answers.Verbs.{accept, history_after}
use Rattle.spec_api.specs.Requests.ObjectRequests.{Request, create_object, update_object, update_status, patch_object}

-- ---- what is asked

-- a name before each of these, in byte order
abbrev pub IsBefore : List ℕ → Members → Type 0
IsBefore k no_members = Unit {0}
IsBefore k (member l d ms) = (slice_cmp nat_cmp k l ≡ Less) × IsBefore k ms

-- a number as a parser gives it: an integer from -2^63 up to below 2^64, `negative` just if it is below zero, or whatever float (RFC 8259, Numbers)
abbrev pub IsInRange : Num → Type 0
IsInRange (unsigned n) = n < 2 ^ 64
IsInRange (negative (pos n)) = ⊥
IsInRange (negative (negsuc n)) = n < 2 ^ 63
IsInRange (float x) = Unit {0}

-- data as a parser gives it: the members of each object in the order of their names, each name once (RFC 8259, Objects), and each text in UTF-8
abbrev mutual
  pub IsParsed : Data → Type 0
  IsParsed (number n) = IsInRange n
  IsParsed (string t) = IsUtf8 t
  IsParsed (array ds) = AreParsed ds
  IsParsed (object ms) = AreInOrder ms
  IsParsed d = Unit {0}

  pub AreParsed : Items → Type 0
  AreParsed no_items = Unit {0}
  AreParsed (item d ds) = IsParsed d × AreParsed ds

  pub AreInOrder : Members → Type 0
  AreInOrder no_members = Unit {0}
  AreInOrder (member k d ms) = IsBefore k ms × IsParsed d × AreInOrder ms × IsUtf8 k

-- a request as it can be read of bytes: a create is in a namespace, and a body is as a parser gives it
abbrev pub CanBeRead : Request → Type 0
CanBeRead (create_object kind ns d) = (is_namespace ns ≡ true) × IsParsed d
CanBeRead (update_object k d) = IsParsed d
CanBeRead (update_status k d) = IsParsed d
CanBeRead (patch_object k d) = IsParsed d
CanBeRead q = Unit {0}

-- a text in UTF-8 of 1 to 20 bytes, as long as a moment is; it is not read
abbrev pub IsTimestamp : List ℕ → Type 0
IsTimestamp moment = (0 < length moment) × (length moment ≤ 20) × IsUtf8 moment

-- ---- what has happened

-- nothing; or more, with the write of a request that was answered at a moment, or with a compaction to no more than the present revision
pub data IsReached : History → Type 0 where
  opened : IsReached []
  asks : (h : History) (q : Request) (moment : List ℕ) → IsReached h → CanBeRead q → IsTimestamp moment → IsReached (history_after h (accept q h moment))
  compacts : (h : History) (r : ℕ) → IsReached h → r ≤ present h → IsReached (h ++ compaction r ∷ [])
