use Rattle.std.proofs.Common.{◌≡◌, ◌∷◌, map, string_bytes, rules}
use Rattle.kcp_options.proofs.mistake.Mistake.of.Goals as goal

pub returns-in-Some-clause-word : goal.returns-in-Some-clause-word
returns-in-Some-clause-word c =
    let parts : map string_bytes c.args.words.now ≡ c.as_str.result.now ∷ map string_bytes c.in-Some.rest.now = search rules in rw parts c.of_named.ensures.word
