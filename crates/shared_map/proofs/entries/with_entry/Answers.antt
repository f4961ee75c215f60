use Rattle.std.proofs.Common.{rules, ◌≡◌, ◌++◌, ◌+◌, ◌∷◌, [], ◌∙◌, take, drop, cond, sym, ap, true, false, arith, subst, Greater}
use Rattle.std.specs.Arc.{arc_value}
use Rattle.std.proofs.lemmas.List.{map-append}
use Rattle.shared_map.specs.Parts.{seen, AllAre, BeginsAt}
use Rattle.shared_map.proofs.Between.{put_place}
use Rattle.shared_map.proofs.Places.{laid}
use Rattle.shared_map.proofs.entries.with_entry.Goals as goal
use Rattle.shared_map.proofs.entries.with_entry.Goals.{then-place, else-place}

pub returns : goal.returns
returns g c =
    let es = c.args.entries.now in
    let e = c.args.entry in
    let p = c.place_in-place.result in
    let next = c.if-place.next in
    let is : next ≡ p.at + cond p.found 1 0 = elim c.if-place.branch [
      | then-place w ↦ (let yes : p.found ≡ true = search rules in w.next-is ∙ ap (λ b. p.at + cond b 1 0) (sym yes))
      | else-place w ↦ (let no : p.found ≡ false = search rules in let same : next ≡ p.at + 0 = omega (arith, w.next-is) in same ∙ ap (λ b. p.at + cond b 1 0) (sym no))
    ] in
    let all : seen c.append_shared-2.new.made.items ≡ (seen (take p.at es) ++ (arc_value e ∷ [])) ++ seen (drop next es) = search (rules, map-append) in
    all ∙ laid arc_value es (arc_value e) p.at next ∙ sym (put_place g.K.Ord.cmp (seen es) (arc_value e) p.at next p.found
    (subst (λ (x : g.row.K.Denot × g.row.V.Denot). AllAre g.K.Ord.cmp Greater x.0 (take p.at (seen es))) c.deref.ensures c.place_in-place.ensures.before)
    (subst (λ (x : g.row.K.Denot × g.row.V.Denot). BeginsAt g.K.Ord.cmp x.0 p.found (drop p.at (seen es))) c.deref.ensures c.place_in-place.ensures.ahead) is)
