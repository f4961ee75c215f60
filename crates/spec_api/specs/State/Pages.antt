-- Lists cut into pages (Kubernetes API Concepts, Retrieving large results sets in chunks).
use Rattle.std.specs.Prelude.{◌==◌, ◌||◌, ℕ, ◌-◌, List, [], ◌∷◌, length, map, take, filter, Bool, true, nat_le, Option, Some, None, if◌then◌else◌}
use Rattle.std.specs.List.Sorted.{IsStrictlySortedBy}
use Rattle.std.specs.Ordering.{nat_cmp, then_cmp, on, is_lt}
use Rattle.std.specs.Cmp.Lexicographic.{slice_cmp}
use Rattle.std.specs.declared.cmp.Ordering.{Ordering}
use Rattle.spec_api.specs.Texts.Keys.{Key}
use Rattle.spec_api.specs.State.History.{Entries}

-- where a page ends: the namespace and the name of its last object
pub record Place : Type 0 where
  pub namespace : List ℕ
  pub name : List ℕ

abbrev pub place_of : Key → Place
place_of n = record { namespace = n.namespace; name = n.name }

-- by namespace, then name, in byte order, as the keys of one kind are ordered
abbrev pub place_cmp : Place → Place → Ordering
place_cmp = then_cmp (on (λ (p : Place). p.namespace) (slice_cmp nat_cmp)) (on (λ (p : Place). p.name) (slice_cmp nat_cmp))

-- the members stand in strictly ascending order of their places
abbrev pub AreInPlace : Entries → Type 0
AreInPlace ms = IsStrictlySortedBy place_cmp (map (λ m. place_of m.0) ms)

-- whether a key comes after a place; where there is none, each does
abbrev pub is_after : Option Place → Key → Bool
is_after None k = true
is_after (Some p) k = is_lt (place_cmp p (place_of k))

-- the members after a place
abbrev pub after_place : Option Place → Entries → Entries
after_place p ms = filter (λ m. is_after p m.0) ms

-- the place of the last member
abbrev pub last_place : Entries → Option Place
last_place [] = None
last_place (m ∷ []) = Some (place_of m.0)
last_place (m ∷ n ∷ ms) = last_place (n ∷ ms)

-- a part of a list, and the place after which the next part begins, if there is one
pub record Page : Type 0 where
  pub items : Entries
  pub next : Option Place

-- the page of a list after a place: at most n members, and where they end if there are more; a limit of 0 is no limit
abbrev pub page_of : Entries → ℕ → Option Place → Page
page_of ms n p =
    let rest = after_place p ms in
    if n == 0 || nat_le (length rest) n then record { items = rest; next = None } else record { items = take n rest; next = last_place (take n rest) }

-- how many members follow that page
abbrev pub remaining : Entries → ℕ → Option Place → ℕ
remaining ms n p = if n == 0 then 0 else length (after_place p ms) - n
