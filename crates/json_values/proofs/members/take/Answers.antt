use Rattle.std.proofs.Common.{◌≡◌, Option, Some, None, option_map, unwrap_or, string_bytes, sym, ap, ◌∙◌}
use Rattle.serde_json.specs.Data.{Data, null, put}
use Rattle.serde_json.specs.Find.{get_member}
use Rattle.serde_json.specs.View.{view, members_view}
use Rattle.serde_json.specs.declared.value.Value.{Null}
use Rattle.serde_json.proofs.Views.{members_view-insert_entry, view-lookup}
use Rattle.json_values.proofs.PutAndTaken.{view-Null}
use Rattle.json_values.proofs.members.take.Goals as goal

pub returns-in-Some-clause-taken : goal.returns-in-Some-clause-taken
returns-in-Some-clause-taken c =
    let ms = members_view c.args.members.now.entries in
    let named : string_bytes c.in_ok-name.name ≡ c.args.name.now = c.in_ok-name.ensures.ok in
    let found : get_member c.args.name.now ms ≡ Some (view c.in-Some.existing) =
    ap (λ k. get_member k ms) (sym named) ∙ sym (view-lookup (string_bytes c.in_ok-name.name) c.args.members.now.entries) ∙ ap (option_map view) (sym c.in_ok-existing.ensures.old ∙ c.in-Some.is) in
    ap (λ (o : Option Data). unwrap_or o null) (sym found)

pub returns-in-Some-clause-left : goal.returns-in-Some-clause-left
returns-in-Some-clause-left c =
    let ms = members_view c.args.members.now.entries in
    let named : string_bytes c.in_ok-name.name ≡ c.args.name.now = c.in_ok-name.ensures.ok in
    ap members_view c.in_ok-existing.ensures.entries ∙ members_view-insert_entry c.args.members.now.entries c.in_ok-name.name Null
    ∙ ap (λ d. put (string_bytes c.in_ok-name.name) d ms) view-Null ∙ ap (λ k. put k null ms) named

pub returns-in-None-clause-taken : goal.returns-in-None-clause-taken
returns-in-None-clause-taken c =
    let ms = members_view c.args.members.now.entries in
    let named : string_bytes c.in_ok-name.name ≡ c.args.name.now = c.in_ok-name.ensures.ok in
    let found : get_member c.args.name.now ms ≡ None =
    ap (λ k. get_member k ms) (sym named) ∙ sym (view-lookup (string_bytes c.in_ok-name.name) c.args.members.now.entries) ∙ ap (option_map view) (sym c.in_ok-existing.ensures.old ∙ c.in-None.is) in
    view-Null ∙ ap (λ (o : Option Data). unwrap_or o null) (sym found)

pub returns-in-None-clause-left : goal.returns-in-None-clause-left
returns-in-None-clause-left c =
    let ms = members_view c.args.members.now.entries in
    let named : string_bytes c.in_ok-name.name ≡ c.args.name.now = c.in_ok-name.ensures.ok in
    ap members_view c.in_ok-existing.ensures.entries ∙ members_view-insert_entry c.args.members.now.entries c.in_ok-name.name Null
    ∙ ap (λ d. put (string_bytes c.in_ok-name.name) d ms) view-Null ∙ ap (λ k. put k null ms) named
