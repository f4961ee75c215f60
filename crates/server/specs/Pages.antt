-- A reply that is a page of a list.
use Rattle.std.specs.Prelude.{◌≡◌, ◌==◌, ℕ, List, Option, None, if◌then◌else◌}
use Rattle.serde_json.specs.Written.{compact_text}
use Rattle.spec_api.specs.History.{View, Entries}
use Rattle.spec_api.specs.Lists.{page_body, told_count}
use Rattle.spec_api.specs.Pages.{Place, last_place, page_of}
use Rattle.spec_api.specs.Versions.{listed_as}
use Rattle.spec_api.specs.Verbs.{Answer}
use Rattle.spec_api.specs.declared.versions.At.TheVariants.{Present}
use Rattle.reply.specs.declared.reply.Reply.{Reply}
use Rattle.server.specs.PageTexts.{told}
use Rattle.server.specs.Replies.{Says}

-- the answer with these items of a list at revision r, after which so many are left
abbrev pub page_with : ℕ → View → Entries → ℕ → Answer
page_with r v items left =
    record {
      code = 200;
      body = page_body v.kind r (told v left) (record { items = items; next = if left == 0 then None else last_place items });
      write = None;
    }

abbrev pub ShowsPage : ℕ → View → Entries → ℕ → Reply → Type 0
ShowsPage r v items left reply = Says (page_with r v items left) reply

-- the text of the page of a list at revision r after a place
abbrev pub text_at : ℕ → View → Entries → ℕ → Option Place → List ℕ
text_at r v listed limit after = compact_text (page_body v.kind r (told_count v (record { at = Present; limit = limit; after = after }) (listed_as r listed)) (page_of listed limit after))

abbrev pub IsTextAt : ℕ → View → Entries → ℕ → Option Place → List ℕ → Type 0
IsTextAt r v listed limit after text = text ≡ text_at r v listed limit after
