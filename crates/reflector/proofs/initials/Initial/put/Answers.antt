use Rattle.std.proofs.Common.{◌≡◌, ap, ◌∙◌}
use Rattle.spec_client_go.specs.Reflectors.{put_step, name_in, Initial, played}
use Rattle.object_keys.specs.Keys.{key_of}
use Rattle.reflector.proofs.Playing.{put_seen, put_kinds}
use Rattle.reflector.proofs.initials.Initial.put.Goals as goal

pub invariant_of-self-2 : goal.invariant_of-self-2
invariant_of-self-2 c =
    let named : key_of c.in_ok-key.key ≡ name_in c.args.object = c.in_ok-key.ensures ∙ ap name_in c.object.ensures in
    put_kinds c.self.inside.members c.insert.new.self c.in_ok-key.key c.args.object c.in_ok-insert.ensures.ok named c.self.invariant

pub returns : goal.returns
returns c =
    let named : key_of c.in_ok-key.key ≡ name_in c.args.object = c.in_ok-key.ensures ∙ ap name_in c.object.ensures in
    let members = put_seen c.self.inside.members c.insert.new.self c.in_ok-key.key c.args.object c.in_ok-insert.ensures.ok named in
    (λ i. record { members = members i; highest = c.higher-self-inside.ensures i }) ∙ ap (λ (s : Initial). played s (put_step (record { object = c.args.object; revision = c.args.revision }))) c.self.view_is
