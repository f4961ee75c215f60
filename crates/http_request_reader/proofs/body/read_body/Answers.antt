use Rattle.std.proofs.Common.{rules, ◌≡◌, ◌++◌, ◌∙◌, length, take, ap}
use Rattle.chunked.specs.Devices.{device_of}
use Rattle.http_request_reader.proofs.Filling.{fault_reads, begins_with}
use Rattle.http_request_reader.proofs.body.read_body.Goals as goal

pub returns-in-Err-clause-read : goal.returns-in-Err-clause-read
returns-in-Err-clause-read g c =
    let front = c.args.front.now in
    let body = c.deref_mut.result.now in
    let text : c.extend_from_slice.new.self.items ≡ front = c.in_ok-extend_from_slice.ensures.items ∙ ap (λ l. l ++ front) c.in_ok-body.ensures.items in
    let begins : take (length front) body ≡ front = begins_with front c.extend_from_slice.new.self.items body _ c.args.size text c.requires.front (c.deref_mut.ensures.value ∙ c.in_ok-resize.ensures.items) in
    let long : length body ≡ c.args.size = search rules in
    fault_reads front (take (length front) body) c.fill.new.body c.args.size (g.R.Read.remaining (device_of c.args.reader.now)) (g.R.Read.remaining (device_of c.fill.new.reader)) c.in-Err.fault c.in-Err.ensures.fills begins
    (c.in-Err.ensures.len ∙ long)
