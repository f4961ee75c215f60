use Rattle.std.proofs.Common.{◌≡◌, ◌++◌, map, drop}
use Rattle.spec_api.specs.Streams.{text_of_lines, added_lines}
use Rattle.meta.specs.Members.{member_of}
use Rattle.line_service.proofs.lines.push_members.Given as goal

-- the lines so far and those that are left are all
abbrev pub invariant-loop-member : goal.invariant-loop-member
invariant-loop-member l =
    l.text.items ++ text_of_lines l.kind (added_lines (map member_of (drop l.member-index l.members))) ≡ l.initial.text.items ++ text_of_lines l.kind (added_lines (map member_of l.members))
