-- What is written for a collection, as a server reads it.
use Rattle.std.proofs.Common.{◌≡◌, ◌<◌, ℕ, List, [], ◌∷◌, ◌++◌, length, true, Some, Ok, Err, codes, sym, ◌∙◌, subst, arith}
use Rattle.request_encoding.proofs.ScopesAsked.{target_is_plain, asks_list, asks_page, asks_watch, asks_stream, text_given}
use Rattle.request_encoding.proofs.Bytes.{are_plain, plain_utf8, plain_visible}
use Rattle.request_encoding.specs.Scopes.{Scope, IsText, is_scope}
use Rattle.request_encoding.specs.Seen.{scope_of}
use Rattle.request_encoding.specs.Targets.{target}
use Rattle.request_encoding.specs.ScopesTold.{Asks}
use Rattle.spec_http.specs.Connections.{AsksOnly}
use Rattle.spec_api.specs.declared.kinds.Kind.{Kind}
use Rattle.spec_api.specs.declared.methods.Method.TheVariants.{Get}
use Rattle.spec_api.specs.Refusals.{no_such_path}
use Rattle.spec_api.specs.Targets.{Asked}
use Rattle.spec_http.proofs.Asked.{written_asked}
use Rattle.spec_http.specs.RequestLaws.{IsWritable}
use Rattle.api_client.specs.Laws.{IsAskedBy, AreAsked, CollectionsAreAsked}
use Rattle.api_client.specs.Outgoing.{get_text}
use Rattle.api_client.proofs.Written.{named, typed, takes, host_is_value, no_path}

not_asked : (a : Asked) → Err no_such_path ≡ Ok a → ⊥
not_asked a e = absurd (cc)

-- a target that asks for something is not empty
filled : (target : List ℕ) (a : Asked) → Asks target a → 0 < length target
filled [] a e = absurd (not_asked a (sym (no_path Get []) ∙ e))
filled (b ∷ t) a e = omega arith

writable : (target : List ℕ) (a : Asked) → are_plain target ≡ true → Asks target a → IsWritable Get (codes "GET") target (codes "localhost") (codes "application/json") []
writable target a plain asks = (
  named Get,
  (filled target a asks, plain_visible target plain, plain_utf8 target plain),
  host_is_value,
  typed Get,
  takes Get,
  omega arith,
)

asked : (target : List ℕ) (a : Asked) → are_plain target ≡ true → Asks target a → IsAskedBy target a
asked target a plain asks rest short =
    subst (λ x. AsksOnly (get_text target ++ rest) (Some x)) asks
    (written_asked Get (codes "GET") target (codes "localhost") (codes "application/json") [] rest (writable target a plain asks) short)

in_scope : (s : Scope) (k : Kind) → is_scope s ≡ true → IsText s.selector → AreAsked s k
in_scope s k is text = (
  asked _ _ (target_is_plain s k is []) (asks_list s k is text),
  λ n r page. asked _ _ (target_is_plain s k is _) (asks_page s k is n r text page),
  λ r early. asked _ _ (target_is_plain s k is _) (asks_watch s k is r text early),
  asked _ _ (target_is_plain s k is _) (asks_stream s k is text),
)

pub collections_asked : CollectionsAreAsked
collections_asked s k = in_scope (scope_of s) k s.understood (text_given s.selector)
