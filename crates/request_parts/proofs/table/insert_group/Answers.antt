use Rattle.std.proofs.Common.{◌≡◌, true, refl, ap, ◌∙◌}
use Rattle.matchit.proofs.OnLiterals.{matchit_on_literals}
use Rattle.spec_api.specs.declared.kinds.Group.{Group}
use Rattle.spec_api.specs.declared.kinds.Group.TheVariants.{Core, Apps}
use Rattle.request_parts.specs.Table.{Table, route_text, with_entry, before, is_free}
use Rattle.request_parts.specs.declared.entries.Layout.TheVariants.{All, Namespace, Object, Status}
use Rattle.request_parts.proofs.table.insert_group.Goals as goal

-- the table of a group so far, of each layout before the next
abbrev before-namespace : Group → Table
before-namespace g = with_entry g All (before g)

abbrev before-object : Group → Table
before-object g = with_entry g Namespace (before-namespace g)

abbrev before-status : Group → Table
before-status g = with_entry g Object (before-object g)

free-all : (g : Group) → is_free (route_text g All) (before g) ≡ true
unfolding matchit_on_literals
free-all Core = refl
free-all Apps = refl

free-namespace : (g : Group) → is_free (route_text g Namespace) (before-namespace g) ≡ true
unfolding matchit_on_literals
free-namespace Core = refl
free-namespace Apps = refl

free-object : (g : Group) → is_free (route_text g Object) (before-object g) ≡ true
unfolding matchit_on_literals
free-object Core = refl
free-object Apps = refl

free-status : (g : Group) → is_free (route_text g Status) (before-status g) ≡ true
unfolding matchit_on_literals
free-status Core = refl
free-status Apps = refl

pub insert-requires : goal.insert-requires
insert-requires c = let g = c.args.group in ap (is_free (route_text g All)) c.requires ∙ free-all g

pub insert-requires-2 : goal.insert-requires-2
insert-requires-2 c =
    let g = c.args.group in
    ap (is_free (route_text g Namespace)) (c.in_ok-insert.ensures ∙ ap (with_entry g All) c.requires) ∙ free-namespace g

pub insert-requires-3 : goal.insert-requires-3
insert-requires-3 c =
    let g = c.args.group in
    ap (is_free (route_text g Object))
    (c.in_ok-insert-2.ensures ∙ ap (with_entry g Namespace) (c.in_ok-insert.ensures ∙ ap (with_entry g All) c.requires)) ∙ free-object g

pub insert-requires-4 : goal.insert-requires-4
insert-requires-4 c =
    let g = c.args.group in
    ap (is_free (route_text g Status))
    (c.in_ok-insert-3.ensures ∙ ap (with_entry g Object) (c.in_ok-insert-2.ensures ∙ ap (with_entry g Namespace) (c.in_ok-insert.ensures ∙ ap (with_entry g All) c.requires))) ∙ free-status g
