-- What a list is answered: a page of it, with its metadata (Kubernetes API Concepts, Collections; Retrieving large results sets in chunks).
use Rattle.std.specs.Prelude.{ℕ, Bool, not, ◌&&◌, ◌==◌, length, Option, Some, None, option_map, Result, Ok, Err, codes, if◌then◌else◌}
use Rattle.serde_json.specs.Data as json
use Rattle.serde_json.specs.Data.{Data, string, number, unsigned, member}
use Rattle.spec_api.specs.declared.kinds.Kind.{Kind}
use Rattle.spec_api.specs.State.History.{History, View}
use Rattle.spec_api.specs.Requests.ListQueries.{ListOptions}
use Rattle.spec_api.specs.State.Pages.{Place, Page, page_of, remaining}
use Rattle.spec_api.specs.Requests.PageTokens.{Token, token_text}
use Rattle.spec_api.specs.Objects.Refusals.{Refusal, with_optional}
use Rattle.spec_api.specs.Answers.Verbs.{Outcome, refused, shown, at_version, list_with}
use Rattle.spec_api.specs.Answers.Versions.{Listed, list_for}

-- the token that asks for what comes after a place, in the list at revision r
abbrev pub token_after : ℕ → Place → Token
token_after r p = record { name = p.name; namespace = p.namespace; revision = r }

-- the metadata of a page at revision r: the token of the next page, how many objects follow, if that is told, and the revision (Kubernetes API reference, ListMeta)
abbrev pub page_metadata : ℕ → Option ℕ → Option Place → json.Members
page_metadata r count None = at_version r
page_metadata r count (Some p) = member (codes "continue") (string (token_text (token_after r p))) (with_optional (codes "remainingItemCount") (option_map (λ n. number (unsigned n)) count) (at_version r))

-- a page at revision r (Kubernetes API Concepts, Collections)
abbrev pub page_body : Kind → ℕ → Option ℕ → Page → Data
page_body k r count page = list_with k (page_metadata r count page.next) page.items

-- whether the view selects by labels or fields
abbrev pub is_selective : View → Bool
is_selective v = not (length v.labels == 0 && length v.fields == 0)

-- how many objects follow a page is told where nothing is selected (Kubernetes API reference, ListMeta)
abbrev pub told_count : View → ListOptions → Listed → Option ℕ
told_count v o l = if is_selective v then None else Some (remaining l.members o.limit o.after)

-- the answer to a list: the page that is asked for, or the refusal
abbrev pub list_answer : View → ListOptions → Result Listed Refusal → Outcome
list_answer v o (Err f) = refused f
list_answer v o (Ok l) = shown (page_body v.kind l.revision (told_count v o l) (page_of l.members o.limit o.after))

-- what a list is answered after all that has happened, with windows of this size
abbrev pub list_outcome : ℕ → History → View → ListOptions → Outcome
list_outcome size h v o = list_answer v o (list_for size h v o.at)
