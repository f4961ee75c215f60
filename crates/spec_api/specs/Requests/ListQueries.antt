-- What the query of a collection asks: which objects, and whether they are listed or watched (Kubernetes API reference, ListOptions).
use Rattle.std.specs.Prelude.{ℕ, zero, suc, List, [], ◌∷◌, Bool, true, false, ◌&&◌, ◌||◌, ◌==◌, length, nat_le, nat_lt, Option, Some, None, option_map, unwrap_or, Result, Ok, Err, codes, if◌then◌else◌}
use Rattle.std.specs.List.{list_all}
use Rattle.std.specs.Map.{lookup}
use Rattle.std.specs.Result.{result_map_both}
use Rattle.std.specs.Str.{bytes_eq}
use Rattle.std.specs.Str.Parse.{digits_value}
use Rattle.spec_api.specs.declared.refusals.Part.{Part}
use Rattle.spec_api.specs.declared.refusals.Part.TheVariants as part
use Rattle.spec_api.specs.Texts.Moments.{is_digit}
use Rattle.spec_api.specs.Requests.PageTokens.{Token, token_place, token_of}
use Rattle.spec_api.specs.State.Pages.{Place}
use Rattle.spec_api.specs.Requests.Queries.{Pairs, parameter, has_any, or_empty}
use Rattle.spec_api.specs.Texts.Revisions.{revision_of}
use Rattle.spec_api.specs.Texts.SelectorFields.{FieldRequirement, fields_of_text}
use Rattle.spec_api.specs.Texts.SelectorTexts.{selector_of_text}
use Rattle.spec_api.specs.Texts.Selectors.{Requirement}
use Rattle.spec_api.specs.declared.versions.At.{At}
use Rattle.spec_api.specs.declared.versions.Match.{Match}
use Rattle.spec_api.specs.declared.versions.Match.TheVariants as match
use Rattle.spec_api.specs.declared.versions.At.TheVariants.{Present, NotOlder, Exact}
use Rattle.spec_api.specs.declared.versions.Start.{Start}
use Rattle.spec_api.specs.declared.versions.Start.TheVariants as begins

-- what is made of a value, if it is understood; else the query is at fault
abbrev pub understood : {A B : Type 0} → Option A → (A → Result B Part) → Result B Part
understood None next = Err part.Query
understood (Some a) next = next a

-- ---- a list

-- a list: at which revision, at most how many objects (0 is no limit), and after which place they begin
pub record ListOptions : Type 0 where
  pub at : At
  pub limit : ℕ
  pub after : Option Place

-- how a query wants the revision of a list to be matched, if it is understood (Kubernetes API Concepts, The resourceVersionMatch parameter)
abbrev pub match_of : Option (List ℕ) → Option Match
match_of None = Some match.Unset
match_of (Some t) = lookup (bytes_eq t) ((codes "NotOlderThan", match.NotOlderThan) ∷ (codes "Exact", match.Exact) ∷ [])

-- the revision that a query names, if any: an empty text names none
abbrev pub version_of : Option (List ℕ) → Option (Option ℕ)
version_of None = Some None
version_of (Some t) = if length t == 0 then Some None else option_map Some (revision_of t)

-- the limit that a query names: one to nine digits; none is 0
abbrev pub limit_of : Option (List ℕ) → Option ℕ
limit_of None = Some 0
limit_of (Some t) = if nat_lt 0 (length t) && nat_le (length t) 9 && list_all is_digit t then Some (digits_value 10 t) else None

-- at which revision a list is, by the revision and the match that are named, and by whether it is limited (Kubernetes API Concepts, Semantics for get and list)
abbrev pub list_at : Bool → Match → Option ℕ → Option At
list_at limited match.Unset None = Some Present
list_at limited match.Unset (Some zero) = Some Present
list_at limited match.NotOlderThan (Some zero) = Some Present
list_at limited match.Unset (Some (suc r)) = Some (if limited then Exact (suc r) else NotOlder (suc r))
list_at limited match.NotOlderThan (Some (suc r)) = Some (NotOlder (suc r))
list_at limited match.Exact (Some (suc r)) = Some (Exact (suc r))
list_at limited matched version = None

-- the list that goes on after a token's place, at its revision (Kubernetes API Concepts, Retrieving large results sets in chunks)
abbrev pub going_on : ℕ → Option Token → Result ListOptions Part
going_on limit None = Err part.Token
going_on limit (Some t) = Ok (record { at = Exact t.revision; limit = limit; after = Some (token_place t) })

-- the list by its `continue`, if there is one; then it names no revision but 0: the token has it
abbrev pub by_token : ℕ → Option ℕ → Option (List ℕ) → At → Result ListOptions Part
by_token limit version None at = Ok (record { at = at; limit = limit; after = None })
by_token limit version (Some t) at = if unwrap_or version 0 == 0 then going_on limit (token_of t) else Err part.Query

-- the options of a list
abbrev pub list_options : Pairs → Result ListOptions Part
list_options pairs =
    understood (limit_of (parameter (codes "limit") pairs)) (λ limit.
    understood (version_of (parameter (codes "resourceVersion") pairs)) (λ version.
    understood (match_of (parameter (codes "resourceVersionMatch") pairs)) (λ matched.
    understood (list_at (nat_lt 0 limit) matched version) (λ at. by_token limit version (parameter (codes "continue") pairs) at))))

-- ---- a watch

-- a watch: how it begins, and whether with bookmarks
pub record WatchOptions : Type 0 where
  pub start : Start
  pub bookmarks : Bool

-- a revision that is unset or 0 is none (Kubernetes API Concepts, Semantics for watch)
abbrev pub watch_from : Option ℕ → Option ℕ
watch_from (Some (suc r)) = Some (suc r)
watch_from version = None

-- where nothing is said of initial events: after a revision, or, where it is unset or 0, with what is there, and then what happens after it
-- (Kubernetes API Concepts, Semantics for watch)
abbrev pub plain_start : Option ℕ → Start
plain_start (Some (suc r)) = begins.After (suc r)
plain_start version = begins.Listed

-- where initial events are not wanted: after a revision, or, where it is unset or 0, after the present one
abbrev pub later_start : Option ℕ → Start
later_start (Some (suc r)) = begins.After (suc r)
later_start version = begins.Present

-- how a watch begins, by whether initial events are named and wanted, by the match, and by the revision that is named: who speaks of initial
-- events names the match NotOlderThan, and who does not names none (Kubernetes API Concepts, Streaming lists)
abbrev pub start_of : Option Bool → Match → Option ℕ → Option Start
start_of None match.Unset version = Some (plain_start version)
start_of (Some true) match.NotOlderThan version = Some (begins.Streamed (watch_from version))
start_of (Some false) match.NotOlderThan version = Some (later_start version)
start_of initial matched version = None

-- whether a parameter is there, and is `true`, `True` or `1`
abbrev pub is_true_value : Option (List ℕ) → Bool
is_true_value value = bytes_eq (or_empty value) (codes "true") || bytes_eq (or_empty value) (codes "True") || bytes_eq (or_empty value) (codes "1")

-- whether initial events are named, and then whether they are wanted
abbrev pub initial_of : Option (List ℕ) → Option Bool
initial_of value = option_map (λ t. is_true_value (Some t)) value

-- the options of a watch; limits and tokens are ignored
abbrev pub watch_options : Pairs → Result WatchOptions Part
watch_options pairs =
    understood (version_of (parameter (codes "resourceVersion") pairs)) (λ version.
    understood (match_of (parameter (codes "resourceVersionMatch") pairs)) (λ matched.
    understood (start_of (initial_of (parameter (codes "sendInitialEvents") pairs)) matched version) (λ start.
    Ok (record { start = start; bookmarks = is_true_value (parameter (codes "allowWatchBookmarks") pairs) }))))

-- ---- the query of a collection

pub data Read : Type 0 where
  list : ListOptions → Read
  watch : WatchOptions → Read

-- which objects are asked for, and what of them
pub record Collection : Type 0 where
  pub labels : List Requirement
  pub fields : List FieldRequirement
  pub read : Read

-- all objects, as they are at present
abbrev pub everything : Collection
everything = record { labels = []; fields = []; read = list (record { at = Present; limit = 0; after = None }) }

-- whether it is listed or watched (Kubernetes API Concepts, Efficient detection of changes); a list has no initial events
abbrev pub read_by : Pairs → Result Read Part
read_by pairs =
    if is_true_value (parameter (codes "watch") pairs) then result_map_both watch (λ p. p) (watch_options pairs)
    else (if has_any (codes "sendInitialEvents" ∷ []) pairs then Err part.Query else result_map_both list (λ p. p) (list_options pairs))

-- the query of a list or a watch, or which part of it is not understood; a token is looked at last. It may not ask for a dry run
-- (Kubernetes API Concepts, Dry-run)
abbrev pub collection_of : Pairs → Result Collection Part
collection_of pairs =
    if has_any (codes "dryRun" ∷ []) pairs then Err part.Query
    else
    understood (selector_of_text (or_empty (parameter (codes "labelSelector") pairs))) (λ labels.
    understood (fields_of_text (or_empty (parameter (codes "fieldSelector") pairs))) (λ fields.
    result_map_both (λ read. record { labels = labels; fields = fields; read = read }) (λ p. p) (read_by pairs)))
