-- The text of a page, by what a view shows.
use Rattle.std.specs.Prelude.{◌≡◌, ℕ, List, false, length, map, take, Option, None, Some, string_bytes, if◌then◌else◌}
use Rattle.serde_json.specs.Data.{object}
use Rattle.serde_json.specs.Written.{compact_text}
use Rattle.spec_api.specs.History.{View}
use Rattle.spec_api.specs.Lists.{is_selective, page_body, page_metadata}
use Rattle.spec_api.specs.Pages.{Page, page_of, remaining}
use Rattle.spec_api.specs.Windows.{Change}
use Rattle.spec_server.specs.Recorded.{undone}
use Rattle.store.specs.Snapshots.{ViewMembers}
use Rattle.pages.specs.PageTexts.{item_texts, closing_text}
use Rattle.server.specs.declared.ends.PageEnd.{PageEnd}
use Rattle.server.specs.declared.shared_pages.SharedPage.{SharedPage}

-- how many objects follow, where that is told
abbrev pub told : View → ℕ → Option ℕ
told v n = if is_selective v then None else Some n

-- the first page of what a view shows
abbrev pub first_page : ℕ → ViewMembers → Page
first_page limit s = page_of s.members limit None

abbrev pub told_after : ℕ → ViewMembers → Option ℕ
told_after limit s = told s.view (remaining s.members limit None)

-- its text, as a list at revision r
abbrev pub first_page_text : ℕ → ℕ → ViewMembers → List ℕ
first_page_text r limit s = compact_text (page_body s.view.kind r (told_after limit s) (first_page limit s))

-- what a view showed before changes, by what it shows after them
abbrev pub shown_before : ViewMembers → List Change → ViewMembers
shown_before s ks = record { view = s.view; members = undone s.view s.members ks }

-- how many items the page has, how long they are, and what comes after them
pub record IsEndOf (p : SharedPage) (e : PageEnd) : Type 0 where
  pub items : take e.count p.objects.members ≡ (first_page p.limit p.objects).items
  pub items_len : e.items_len ≡ length (item_texts false (map (λ m. m.1) (first_page p.limit p.objects).items))
  pub closing : string_bytes e.closing ≡ closing_text p.objects.view.kind (object (page_metadata p.revision (told_after p.limit p.objects) (first_page p.limit p.objects).next))
