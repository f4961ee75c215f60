-- Where the objects of a view lie in the order of keys.
use Rattle.std.specs.Prelude.{ℕ, List, [], ◌∷◌, ◌++◌, Option, Some, None, option_map, unwrap_or, if◌then◌else◌}
use Rattle.std.specs.Ordering.{is_lt}
use Rattle.spec_api.specs.History.{View}
use Rattle.spec_api.specs.Kinds.{kind_after}
use Rattle.spec_api.specs.Keys.{Key, key_cmp}
use Rattle.spec_api.specs.Pages.{Place}
use Rattle.spec_api.specs.declared.kinds.Kind.{Kind}

-- the first name of a kind in a namespace
abbrev pub first_name : Kind → List ℕ → Key
first_name kind ns = record { kind = kind; namespace = ns; name = [] }

-- the first name that a view may ask for
abbrev pub first_asked : View → Key
first_asked v = first_name v.kind (unwrap_or v.namespace [])

-- the first name after all of a kind in a namespace or, without one, in all; the next text in byte order is the text and a zero
abbrev pub first_past : Kind → Option (List ℕ) → Option Key
first_past kind None = option_map (λ next. first_name next []) (kind_after kind)
first_past kind (Some ns) = Some (first_name kind (ns ++ 0 ∷ []))

abbrev pub later : Key → Key → Key
later a b = if is_lt (key_cmp a b) then b else a

-- the first name of a kind after a place
abbrev pub first_after : Kind → Place → Key
first_after kind p = record { kind = kind; namespace = p.namespace; name = p.name ++ 0 ∷ [] }

-- the first name that a view may ask for after a place
abbrev pub start_name : View → Option Place → Key
start_name v None = first_asked v
start_name v (Some p) = later (first_asked v) (first_after v.kind p)
