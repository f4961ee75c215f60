-- What is written for a frame is read as that frame.
use Rattle.std.proofs.Common.{◌≡◌, ℕ, suc, ◌≤◌, ◌<◌, max, List, [], ◌∷◌, ◌++◌, length, false, codes, Option, Some, option_and_then, Ok, IsSome, refl, sym, ap, ap₂, ◌∙◌, subst, arith, append-nil, append_assoc, length-append}
use Rattle.std.specs.Str.{IsUtf8}
use Rattle.std.proofs.lemmas.Str.{IsUtf8-append}
use Rattle.json.specs.Token.{Token}
use Rattle.json.specs.Lex.{tokens}
use Rattle.json.specs.Json as json
use Rattle.json.specs.Tree as tree
use Rattle.json.specs.Tree.{json_tokens, HasNumbers}
use Rattle.json.proofs.Printed.Trees.{value-json_tokens, ArePrintable-json_tokens}
use Rattle.json.proofs.Printed.Tokens.{tokens-print}
use Rattle.json.proofs.Printed.Utf8.{IsUtf8-are_ascii}
use Rattle.json.proofs.Numbered.{document-HasNumbers}
use Rattle.serde_json.specs.Data.{Data, null, boolean, number, string, array, object, Items, no_items, item, Members, no_members, member, depth, items_depth, members_depth}
use Rattle.serde_json.specs.Find.{as_object}
use Rattle.serde_json.specs.Read.{read, of_json, max_depth}
use Rattle.serde_json.specs.Written.{compact_text, outline, items_outline, members_outline, has_float, IsInOrder}
use Rattle.serde_json.proofs.Texts.{tokens_from_order, print-outline}
use Rattle.serde_json.proofs.OnLiterals.{serde_json_on_literals}
use Rattle.spec_api.proofs.TokensOfData.{depth-outline, read_tokens}
use Rattle.spec_api.specs.Frames.{Frame, frame_data, frame_text, kind_text}
use Rattle.spec_client_go.specs.ReadFrames.{frame_in, line_read, reading, next, longest_frame}
use Rattle.framing.specs.Texts.{framed_text, IsWithin, ReadsAs}
use Rattle.spec_api.specs.declared.frames.FrameKind.{FrameKind}
use Rattle.spec_api.specs.declared.frames.FrameKind.TheVariants.{Added, Modified, Deleted, Bookmark, Error}
use Rattle.framing.proofs.Newlines.{IsPartial-from_flat, flat-compact_text}
use Rattle.framing.proofs.OneLine.{line_read_is}
use Rattle.framing.proofs.Reading.{reading-line}

numbered : (j : json.Json) (text : List ℕ) → tokens text ≡ json_tokens j → tree.depth j ≤ 128 → HasNumbers j
numbered j text same shallow =
    document-HasNumbers text j (ap (option_and_then (λ p. json.if_last p.0 p.1)) (ap (json.value json.max_depth) (same ∙ sym (append-nil (json_tokens j))) ∙ value-json_tokens j 128 [] shallow))

frame_outline : json.Json → List ℕ → json.Json
frame_outline j s = json.object (json.member (codes "object") j (json.member (codes "type") (json.string s) json.no_members))

converts : (kind : FrameKind) (j : json.Json) (d : Data) → of_json j ≡ Some d → of_json (frame_outline j (kind_text kind)) ≡ Some (frame_data (record { kind = kind; object = d }))
unfolding frame_outline
converts kind j d h = rw h refl

whole_numbered : (j : json.Json) (s : List ℕ) → HasNumbers j → HasNumbers (frame_outline j s)
unfolding frame_outline
whole_numbered j s h = (h, (tt, tt))

-- the whole is read back, as its object is
pub frame_read_back : (kind : FrameKind) (d : Data) (text : List ℕ) → (let e : Frame = record { kind = kind; object = d } in
    IsInOrder text d → has_float d ≡ false → read text ≡ Some d → depth (frame_data e) ≤ max_depth → read (compact_text (frame_data e)) ≡ Some (frame_data e))
unfolding frame_outline
frame_read_back kind d text order clean back nests =
    let e : Frame = record { kind = kind; object = d } in
    let j = frame_outline (outline d) (kind_text kind) in
    let same = tokens_from_order text d order clean in
    let shallow : tree.depth (outline d) ≤ max_depth = omega (arith, nests, depth-outline d) in
    let numbers = whole_numbered (outline d) (kind_text kind) (numbered (outline d) text same (omega (arith, shallow))) in
    let all : tokens (compact_text (frame_data e)) ≡ json_tokens j = ap tokens (sym (print-outline (frame_data e))) ∙ tokens-print (json_tokens j) (ArePrintable-json_tokens j numbers) in
    read_tokens j (compact_text (frame_data e)) all (omega (arith, nests, depth-outline (frame_data e)))
    ∙ converts kind (outline d) d (sym (read_tokens (outline d) text same shallow) ∙ back)

-- ---- the frame in it

event_is : (kind : FrameKind) (d : Data) → IsSome (as_object d) → Some (record { kind = kind; object = d }) ≡ frame_in (frame_data (record { kind = kind; object = d }))
event_is Added (object ms) h = refl
event_is Modified (object ms) h = refl
event_is Deleted (object ms) h = refl
event_is Bookmark (object ms) h = refl
event_is Error (object ms) h = refl
event_is kind null h = cc
event_is kind (boolean b) h = cc
event_is kind (number n) h = cc
event_is kind (string s) h = cc
event_is kind (array ds) h = cc

-- ---- the bytes

abbrev opening : List ℕ
opening = codes "{\"object\":"

abbrev closing : FrameKind → List ℕ
closing kind = codes ",\"type\":\"" ++ (kind_text kind ++ codes "\"}")

line_bytes : (kind : FrameKind) (d : Data) → compact_text (frame_data (record { kind = kind; object = d })) ≡ opening ++ (compact_text d ++ closing kind)
unfolding serde_json_on_literals
line_bytes Added d = refl
line_bytes Modified d = refl
line_bytes Deleted d = refl
line_bytes Bookmark d = refl
line_bytes Error d = refl

closing_is_utf8 : (kind : FrameKind) → IsUtf8 (closing kind)
closing_is_utf8 Added = IsUtf8-are_ascii _ refl
closing_is_utf8 Modified = IsUtf8-are_ascii _ refl
closing_is_utf8 Deleted = IsUtf8-are_ascii _ refl
closing_is_utf8 Bookmark = IsUtf8-are_ascii _ refl
closing_is_utf8 Error = IsUtf8-are_ascii _ refl

frame_is_utf8 : (kind : FrameKind) (d : Data) → IsUtf8 (compact_text d) → IsUtf8 (compact_text (frame_data (record { kind = kind; object = d })))
frame_is_utf8 kind d u = subst IsUtf8 (sym (line_bytes kind d)) (IsUtf8-append opening _ (IsUtf8-are_ascii _ refl) (IsUtf8-append (compact_text d) (closing kind) u (closing_is_utf8 kind)))

closing_line : (kind : FrameKind) → closing kind ++ 10 ∷ [] ≡ codes ",\"type\":\"" ++ (kind_text kind ++ codes "\"}\n")
closing_line Added = refl
closing_line Modified = refl
closing_line Deleted = refl
closing_line Bookmark = refl
closing_line Error = refl

pub frame_bytes : (kind : FrameKind) (d : Data) → framed_text (kind_text kind) (compact_text d) ≡ frame_text (record { kind = kind; object = d })
frame_bytes kind d =
    ap (λ z. opening ++ (compact_text d ++ z)) (sym (closing_line kind)) ∙ ap (λ z. opening ++ z) (sym (append_assoc (compact_text d) (closing kind) (10 ∷ [])))
    ∙ sym (append_assoc opening (compact_text d ++ closing kind) (10 ∷ [])) ∙ ap (λ z. z ++ 10 ∷ []) (sym (line_bytes kind d))

-- what is written is read as the frame, whatever follows
pub reads_as : (kind : FrameKind) (d : Data) (text : List ℕ) → IsInOrder text d → has_float d ≡ false → read text ≡ Some d → text ≡ compact_text d → IsUtf8 text
    → IsWithin (record { kind = kind; object = d }) → ReadsAs (frame_text (record { kind = kind; object = d })) (record { kind = kind; object = d })
reads_as kind d text order clean back is utf8 within more =
    let e : Frame = record { kind = kind; object = d } in
    let line = compact_text (frame_data e) in
    let short : length line < longest_frame = omega (arith, within.fits, length-append line (10 ∷ [])) in
    let says : Ok e ≡ line_read line =
    line_read_is line (frame_data e) (Some e) short (frame_is_utf8 kind d (subst IsUtf8 is utf8)) (frame_read_back kind d text order clean back within.nests) (event_is kind d within.is_object) in
    ap reading (append_assoc line (10 ∷ []) more) ∙ reading-line line more (IsPartial-from_flat line (flat-compact_text (frame_data e))) ∙ ap (λ o. next o (reading more)) (sym says)

pub object_nests : (e : Frame) → IsWithin e → depth e.object ≤ max_depth
object_nests e w = omega (arith, w.nests)

-- ---- a line that was made of the text of its object

pub line_is : (k kind : FrameKind) (d : Data) (text line : List ℕ) → k ≡ kind → line ≡ framed_text (kind_text k) text → text ≡ compact_text d → line ≡ frame_text (record { kind = kind; object = d })
line_is k kind d text line same made is = made ∙ ap (λ k. framed_text (kind_text k) text) same ∙ ap (framed_text (kind_text kind)) is ∙ frame_bytes kind d

pub line_reads : (k kind : FrameKind) (d : Data) (text line : List ℕ) → k ≡ kind → line ≡ framed_text (kind_text k) text → text ≡ compact_text d
    → IsInOrder text d → has_float d ≡ false → (depth d ≤ max_depth → read text ≡ Some d) → IsUtf8 text
    → IsWithin (record { kind = kind; object = d }) → ReadsAs line (record { kind = kind; object = d })
line_reads k kind d text line same made is order clean back utf8 within =
    let e : Frame = record { kind = kind; object = d } in
    subst (λ t. ReadsAs t e) (sym (line_is k kind d text line same made is)) (reads_as kind d text order clean (back (object_nests e within)) is utf8 within)
