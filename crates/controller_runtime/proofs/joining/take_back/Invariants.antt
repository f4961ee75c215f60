use Rattle.std.proofs.Common.{◌≡◌, ◌+◌, ◌≤◌, All}
use Rattle.std.specs.Vec.{vec_len, vec_capacity}
use Rattle.controller_runtime.specs.Runs.{IsBack}
use Rattle.controller_runtime.specs.Threads.{HasEnded}
use Rattle.controller_runtime.proofs.joining.take_back.Given as goal

-- the passes that have been taken back are back, and those of the threads that are left will be
abbrev pub invariant-loop-thread : goal.invariant-loop-thread
invariant-loop-thread g l =
    let owes = g.C.Reconciler.owes in
    let ends = g.C.Reconciler.ends in
    let says = g.K.Named.says in
    All (HasEnded owes ends says l.board) l.threads.items
    × All (IsBack owes ends says l.board) l.passes.items
    × (vec_len l.passes + vec_len l.threads ≤ vec_capacity l.passes)
    × (vec_len l.passes + vec_len l.threads ≡ vec_len l.fn.passes + vec_len l.fn.threads)

abbrev pub decreases-loop-thread : goal.decreases-loop-thread
decreases-loop-thread g l = vec_len l.threads
