use Rattle.std.proofs.Common.{◌≡◌, ◌++◌, map, drop}
use Rattle.http_response.specs.Frames.{object_frames}
use Rattle.http_response.proofs.frames.push_objects.Given as goal

-- the frames so far and those that are left are all
abbrev pub invariant-loop-object : goal.invariant-loop-object
invariant-loop-object l = l.text.items ++ object_frames (map (λ o. o.value) (drop l.object-index l.objects)) ≡ l.initial.text.items ++ object_frames (map (λ o. o.value) l.objects)
