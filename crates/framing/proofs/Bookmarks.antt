-- A bookmark is within the limits.
use Rattle.std.proofs.Common.{◌≡◌, ℕ, ◌+◌, ◌^◌, ◌≤◌, ◌<◌, List, [], ◌∷◌, ◌++◌, length, Bool, true, false, codes, decimal, nat_le, refl, ap, arith, length-append, append_assoc}
use Rattle.std.proofs.lemmas.Bool.{leb-true}
use Rattle.std.proofs.lemmas.Fmt.{length-decimal-le}
use Rattle.json.specs.Print.{escape, quoted}
use Rattle.serde_json.specs.Data.{depth}
use Rattle.serde_json.specs.Read.{max_depth}
use Rattle.serde_json.specs.Written.{compact_text}
use Rattle.serde_json.proofs.OnLiterals.{serde_json_on_literals}
use Rattle.spec_api.specs.declared.kinds.Kind.{Kind}
use Rattle.spec_api.specs.Kinds as kinds
use Rattle.spec_api.specs.Kinds.{api_version}
use Rattle.spec_api.specs.Frames.{kind_text, frame_data, bookmark_data, bookmark_frame}
use Rattle.spec_api.proofs.EscapedTexts.{length-escape, length-quoted}
use Rattle.spec_api.proofs.KindOrder.{each_kind}
use Rattle.framing.specs.Texts.{IsWithin, framed_text}
use Rattle.spec_api.specs.declared.frames.FrameKind.TheVariants.{Bookmark}
use Rattle.framing.proofs.FrameTexts.{frame_bytes}

-- what stands between the kind and the revision in a bookmark
middle : Bool → List ℕ
middle false = codes ",\"metadata\":{\"resourceVersion\":\""
middle true = codes ",\"metadata\":{\"annotations\":{\"k8s.io/initial-events-end\":\"true\"},\"resourceVersion\":\""

text_is : (k : Kind) (b : Bool) (r : ℕ)
    → compact_text (bookmark_data k b r)
    ≡ codes "{\"apiVersion\":" ++ (quoted (api_version k) ++ (codes ",\"kind\":" ++ (quoted (kinds.kind_text k) ++ (middle b ++ (escape (decimal r) ++ codes "\"}}")))))
unfolding serde_json_on_literals middle
text_is k true r = simp append_assoc
text_is k false r = simp append_assoc

length-middle : (b : Bool) → length (middle b) ≤ 100
unfolding middle
length-middle true = omega arith
length-middle false = omega arith

short : (k : Kind) → (length (api_version k) ≤ 40) × (length (kinds.kind_text k) ≤ 40)
short k = (
  leb-true (length (api_version k)) 40 (each_kind (λ k. nat_le (length (api_version k)) 40) refl k),
  leb-true (length (kinds.kind_text k)) 40 (each_kind (λ k. nat_le (length (kinds.kind_text k)) 40) refl k),
)

length-text : (k : Kind) (b : Bool) (r : ℕ) → r < 2 ^ 64 → length (compact_text (bookmark_data k b r)) ≤ 1000
length-text k b r h =
    let digits = length-decimal-le 20 r (omega arith) (omega arith) h in
    let last = escape (decimal r) ++ codes "\"}}" in
    let kind = quoted (kinds.kind_text k) ++ (middle b ++ last) in
    omega (
      arith,
      ap length (text_is k b r),
      length-append (quoted (api_version k)) (codes ",\"kind\":" ++ kind),
      length-append (quoted (kinds.kind_text k)) (middle b ++ last),
      length-append (middle b) last,
      length-append (escape (decimal r)) (codes "\"}}"),
      length-quoted (api_version k),
      length-quoted (kinds.kind_text k),
      length-escape (decimal r),
      length-middle b,
      (short k).0,
      (short k).1,
      digits,
    )

length-framed : (t : List ℕ) → length (framed_text (kind_text Bookmark) t) ≤ length t + 40
length-framed t = omega (arith, length-append t (codes ",\"type\":\"BOOKMARK\"}\n"))

nests : (k : Kind) (b : Bool) (r : ℕ) → depth (frame_data (bookmark_frame k b r)) ≤ max_depth
nests k true r = omega arith
nests k false r = omega arith

pub IsWithin-bookmark : (k : Kind) (b : Bool) (r : ℕ) → r < 2 ^ 64 → IsWithin (bookmark_frame k b r)
IsWithin-bookmark k b r h =
    let text = compact_text (bookmark_data k b r) in
    record {
      is_object = refl;
      nests = nests k b r;
      fits = omega (arith, ap length (frame_bytes Bookmark (bookmark_data k b r)), length-framed text, length-text k b r h);
    }
