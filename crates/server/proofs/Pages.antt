-- Pages that are found are those that are answered.
use Rattle.std.proofs.Common.{◌≡◌, ◌==◌, ◌||◌, ◌-◌, nat_le, ℕ, List, length, take, Option, None, Result, Ok, Err, if◌then◌else◌, refl, sym, ap, subst}
use Rattle.serde_json.specs.Written.{compact_text}
use Rattle.spec_api.specs.History.{View, Entries}
use Rattle.spec_api.specs.Lists.{page_body}
use Rattle.spec_api.specs.Pages.{Place, Page, after_place, last_place}
use Rattle.spec_api.specs.Verbs.{Outcome, answered, refused}
use Rattle.spec_api.proofs.PageLists.{all_after}
use Rattle.object_keys.specs.declared.fault.Fault.{Fault}
use Rattle.object_keys.specs.declared.fault.Fault.TheVariants as fault
use Rattle.server.specs.PageTexts.{told, first_page_text}
use Rattle.server.specs.Pages.{text_at}
use Rattle.server.specs.Replies.{Finds}

abbrev remaining_of : ℕ → Entries → ℕ
remaining_of n rest = if n == 0 then 0 else length rest - n

abbrev page_in : ℕ → Entries → Page
page_in n rest = if n == 0 || nat_le (length rest) n then record { items = rest; next = None } else record { items = take n rest; next = last_place (take n rest) }

-- the first page of the members after a place is the page after it
pub text_after : (r : ℕ) (v : View) (ms : Entries) (n : ℕ) (p : Option Place) → first_page_text r n (record { view = v; members = after_place p ms }) ≡ text_at r v ms n p
text_after r v ms n p = ap (λ rest. compact_text (page_body v.kind r (told v (remaining_of n rest)) (page_in n rest))) (all_after (after_place p ms))

-- ---- what is found, as it is answered

-- a page for whose text there is no memory
pub found_lacking : (o : Outcome) (text : List ℕ) → Finds o (Ok text) → Finds o (Err fault.NoMemory)
found_lacking (answered a) text is = refl
found_lacking (refused f) text never = absurd never

-- the same text
pub found_same : (o : Outcome) (page text : List ℕ) (r : Result (List ℕ) Fault) → r ≡ Ok page → text ≡ page → Finds o r → Finds o (Ok text)
found_same o page text r is same finds = subst (λ t. Finds o (Ok t)) (sym same) (subst (Finds o) is finds)
