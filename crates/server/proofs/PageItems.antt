-- A page is made of its first members, and of what comes after them.
use Rattle.std.proofs.Common.{◌≡◌, ◌<◌, ◌==◌, ◌+◌, nat_eq, nat_le, ℕ, List, ◌++◌, length, map, take, Bool, true, false, cond, Option, Some, None, refl, sym, ap, ap₂, ◌∙◌, arith, string_bytes, length-append}
use Rattle.std.proofs.Math.Seq.{take-length}
use Rattle.std.proofs.lemmas.Bool.Decides.{nat_tests}
use Rattle.std.proofs.lemmas.List.{length-take-le, length-map}
use Rattle.serde_json.specs.Data.{object}
use Rattle.spec_api.specs.declared.kinds.Kind.{Kind}
use Rattle.spec_api.specs.History.{View, Entries}
use Rattle.spec_api.specs.Lists.{is_selective, page_metadata}
use Rattle.spec_api.specs.Pages.{Place, after_place, last_place, page_of, remaining}
use Rattle.spec_api.proofs.PageLists.{all_after, next_is_last}
use Rattle.meta.specs.Members.{member_of}
use Rattle.meta.specs.declared.lent_members.Member.{Member}
use Rattle.store.specs.Chunks.{Tells, IsPage}
use Rattle.store.specs.Snapshots.{ViewMembers}
use Rattle.store.specs.declared.chunks.Chunk.{Chunk}
use Rattle.pages.specs.PageTexts.{item_texts, opening_text, closing_text}
use Rattle.pages.proofs.PageTexts.{page_is_pieces, data_of}
use Rattle.server.specs.PageTexts.{told, first_page, told_after, first_page_text, IsEndOf}
use Rattle.server.specs.declared.ends.PageEnd.{PageEnd}
use Rattle.server.specs.declared.shared_pages.SharedPage.{SharedPage}
use Rattle.server.specs.ListTexts.{text_left}

-- ---- the first members

prefix_at : (ms : Entries) (n : ℕ) (b c : Bool) → nat_eq n 0 ≡ b → nat_le (length (after_place None ms)) n ≡ c → take (length (page_of ms n None).items) ms ≡ (page_of ms n None).items
prefix_at ms n true c none le = rw none (ap (λ z. take (length z) ms) (all_after ms) ∙ take-length ms ∙ sym (all_after ms))
prefix_at ms n false true none le = rw (none, le) (ap (λ z. take (length z) ms) (all_after ms) ∙ take-length ms ∙ sym (all_after ms))
prefix_at ms n false false none le =
    let more : n < length (after_place None ms) = grind (arith, nat_tests) in
    rw (none, le) (ap (λ k. take k ms) (length-take-le n (after_place None ms) (omega (arith, more))) ∙ ap (λ z. take n z) (sym (all_after ms)))

-- as many of the first members as a page has are its items
pub prefix : (ms : Entries) (n : ℕ) → take (length (page_of ms n None).items) ms ≡ (page_of ms n None).items
prefix ms n = prefix_at ms n (nat_eq n 0) (nat_le (length (after_place None ms)) n) refl refl

-- ---- what comes after them

pub told_same : (v : View) (left count : ℕ) → Tells v left count → told v count ≡ told v left
told_same v left count t = by (is_selective v) refl
  where
    by : (b : Bool) → is_selective v ≡ b → cond b None (Some count) ≡ cond b None (Some left)
    by true is = refl
    by false is = ap (λ n. Some n) (t.number is)

pub next_same : (v : View) (ms : Entries) (n : ℕ) (c : Chunk) (next : Option Place) → IsPage v ms n None c → next ≡ cond (c.remaining == 0) None (last_place (map member_of c.members.items))
    → next ≡ (page_of ms n None).next
next_same v ms n c next p is =
    is ∙ ap (λ b. cond b None (last_place (map member_of c.members.items))) p.rest.whether ∙ ap (λ z. cond (remaining ms n None == 0) None (last_place z)) p.items
    ∙ sym (next_is_last ms n None (nat_eq n 0) (nat_le (length (after_place None ms)) n) refl refl)

module _ (p : SharedPage) (chunk : Chunk) (e : PageEnd) (is : IsPage p.objects.view p.objects.members p.limit None chunk) where
  end_items : e.count ≡ length chunk.members.items → take e.count p.objects.members ≡ (first_page p.limit p.objects).items
  end_items many =
      let as_many : e.count ≡ length (first_page p.limit p.objects).items = many ∙ sym (length-map chunk.members.items member_of) ∙ ap length is.items in
      ap (λ n. take n p.objects.members) as_many ∙ prefix p.objects.members p.limit

  end_len : e.items_len ≡ length (item_texts false (map (λ (m : Member). m.object.now.value) chunk.members.items))
      → e.items_len ≡ length (item_texts false (map (λ m. m.1) (first_page p.limit p.objects).items))
  end_len long = long ∙ ap (λ ds. length (item_texts false ds)) (sym (data_of chunk.members.items)) ∙ ap (λ ms. length (item_texts false (map (λ m. m.1) ms))) is.items

  end_closing : (count : Option ℕ) (next : Option Place) → count ≡ told p.objects.view chunk.remaining → next ≡ cond (chunk.remaining == 0) None (last_place (map member_of chunk.members.items))
      → string_bytes e.closing ≡ closing_text p.objects.view.kind (object (page_metadata p.revision count next))
      → string_bytes e.closing ≡ closing_text p.objects.view.kind (object (page_metadata p.revision (told_after p.limit p.objects) (first_page p.limit p.objects).next))
  end_closing count next counted follows closing =
      let same_count : count ≡ told_after p.limit p.objects = counted ∙ told_same p.objects.view (remaining p.objects.members p.limit None) chunk.remaining is.rest in
      let same_next : next ≡ (first_page p.limit p.objects).next = next_same p.objects.view p.objects.members p.limit chunk next is follows in
      closing ∙ ap₂ (λ c n. closing_text p.objects.view.kind (object (page_metadata p.revision c n))) same_count same_next

  pub end_is : (count : Option ℕ) (next : Option Place) → e.count ≡ length chunk.members.items
      → e.items_len ≡ length (item_texts false (map (λ (m : Member). m.object.now.value) chunk.members.items)) → count ≡ told p.objects.view chunk.remaining
      → next ≡ cond (chunk.remaining == 0) None (last_place (map member_of chunk.members.items))
      → string_bytes e.closing ≡ closing_text p.objects.view.kind (object (page_metadata p.revision count next)) → IsEndOf p e
  end_is count next many long counted follows closing = record { items = end_items many; items_len = end_len long; closing = end_closing count next counted follows closing }

-- ---- the text

-- of a page of which nothing is made
module _ (limit count : ℕ) (s : ViewMembers) (ms : Entries) (before closing : List ℕ) (here : ms ≡ s.members) (items : take count s.members ≡ (first_page limit s).items) where
  made_of : take count ms ≡ (first_page limit s).items
  made_of = ap (take count) here ∙ items

  -- what is left is its text
  pub all_left : (r : ℕ) (k : Kind) → k ≡ s.view.kind → before ≡ opening_text k → closing ≡ closing_text s.view.kind (object (page_metadata r (told_after limit s) (first_page limit s).next))
      → text_left before false count ms closing ≡ first_page_text r limit s
  all_left r k kind opening end =
      let page = first_page limit s in
      ap₂ (λ b z. b ++ (item_texts false (map (λ m. m.1) z) ++ closing)) (opening ∙ ap opening_text kind) made_of
      ∙ ap (λ t. opening_text s.view.kind ++ (item_texts false (map (λ m. m.1) page.items) ++ t)) end
      ∙ sym (page_is_pieces s.view.kind r (told_after limit s) page.items page.next)

  -- how long that is
  pub all_long : (items_len : ℕ) → items_len ≡ length (item_texts false (map (λ m. m.1) (first_page limit s).items)) → (length before + items_len) + length closing ≡ length (text_left before false count ms closing)
  all_long items_len long =
      let made = item_texts false (map (λ m. m.1) (take count ms)) in
      let same : items_len ≡ length made = long ∙ ap (λ z. length (item_texts false (map (λ m. m.1) z))) (sym made_of) in
      omega (arith, same, length-append before (made ++ closing), length-append made closing)
