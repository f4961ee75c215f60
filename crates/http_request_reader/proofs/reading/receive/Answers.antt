use Rattle.std.proofs.Common.{◌≡◌, ◌≤◌, length, [], ap, sym, ◌∙◌, subst, arith}
use Rattle.chunked.specs.Devices.{device_of, has_failed}
use Rattle.spec_http.specs.Connections.{longest_head}
use Rattle.spec_api.specs.declared.refusals.Part.TheVariants as part
use Rattle.object_keys.specs.declared.fault.Fault.TheVariants as refusal
use Rattle.http_request_head.proofs.Wholes.{found_asks}
use Rattle.http_request_head.specs.Reading.{IsFound, Reads}
use Rattle.http_request_head.specs.declared.found.FoundHead.TheVariants as found
use Rattle.http_request_reader.specs.declared.received.Received.TheVariants as received
use Rattle.http_request_reader.proofs.Needed.{head_needs, fault_needs}
use Rattle.http_request_reader.proofs.Told.{whole_asks, known_asks, cut_asks, from_first}
use Rattle.http_request_reader.proofs.reading.receive.Goals as goal

pub returns-in-Ok-Whole-clause-asks : goal.returns-in-Ok-Whole-clause-asks
returns-in-Ok-Whole-clause-asks g c =
    let before = g.R.Read.remaining (device_of c.args.reader.now) in
    let mid = g.R.Read.remaining (device_of c.read_head.new.reader) in
    let fields = c.read_head.new.fields in
    let bytes = c.read_head.new.bytes.items in
    let lent = c.deref.result.now in
    let reads : Reads before mid [] lent = from_first before mid c.new-bytes.result.items bytes lent c.new-bytes.ensures.items c.deref.ensures.value c.in-Ok-Whole.ensures.read in
    let is : IsFound lent fields (found.Whole c.in-Ok-Whole.found) = subst (λ b. IsFound b fields (found.Whole c.in-Ok-Whole.found)) (sym c.deref.ensures.value) (subst (IsFound bytes fields) c.in-Ok-Whole.field-0-is c.in-Ok-Whole.ensures.found) in
    whole_asks before mid (g.R.Read.remaining (device_of c.after_head.new.reader)) lent fields c.in-Ok-Whole.found c.after_head.result reads is c.after_head.ensures.tells

pub returns-in-Ok-Whole-clause-needs : goal.returns-in-Ok-Whole-clause-needs
returns-in-Ok-Whole-clause-needs g c =
    let before = g.R.Read.remaining (device_of c.args.reader.now) in
    let mid = g.R.Read.remaining (device_of c.read_head.new.reader) in
    let fields = c.read_head.new.fields in
    let bytes = c.read_head.new.bytes.items in
    let lent = c.deref.result.now in
    let reads : Reads before mid [] lent = from_first before mid c.new-bytes.result.items bytes lent c.new-bytes.ensures.items c.deref.ensures.value c.in-Ok-Whole.ensures.read in
    let is : IsFound lent fields (found.Whole c.in-Ok-Whole.found) = subst (λ b. IsFound b fields (found.Whole c.in-Ok-Whole.found)) (sym c.deref.ensures.value) (subst (IsFound bytes fields) c.in-Ok-Whole.field-0-is c.in-Ok-Whole.ensures.found) in
    let short : length lent ≤ longest_head = omega (arith, ap length c.deref.ensures.value, c.in-Ok-Whole.ensures.limit) in
    head_needs before mid (g.R.Read.remaining (device_of c.after_head.new.reader)) lent fields c.in-Ok-Whole.found c.after_head.result reads short is c.after_head.ensures.tells

pub returns-in-Ok-IllFormed-clause-asks : goal.returns-in-Ok-IllFormed-clause-asks
returns-in-Ok-IllFormed-clause-asks g c =
    let before = g.R.Read.remaining (device_of c.args.reader.now) in
    let mid = g.R.Read.remaining (device_of c.read_head.new.reader) in
    let fields = c.read_head.new.fields in
    let bytes = c.read_head.new.bytes.items in
    let reads : Reads before mid [] bytes = subst (λ o. Reads before mid o bytes) c.new-bytes.ensures.items c.in-Ok-IllFormed.ensures.read in
    known_asks before mid bytes (received.Refused (refusal.BadRequest part.Head)) reads (λ left here. found_asks bytes fields found.IllFormed left (subst (IsFound bytes fields) c.in-Ok-IllFormed.field-0-is c.in-Ok-IllFormed.ensures.found))

pub returns-in-Ok-TooLarge-clause-asks : goal.returns-in-Ok-TooLarge-clause-asks
returns-in-Ok-TooLarge-clause-asks g c =
    let before = g.R.Read.remaining (device_of c.args.reader.now) in
    let mid = g.R.Read.remaining (device_of c.read_head.new.reader) in
    let fields = c.read_head.new.fields in
    let bytes = c.read_head.new.bytes.items in
    let reads : Reads before mid [] bytes = subst (λ o. Reads before mid o bytes) c.new-bytes.ensures.items c.in-Ok-TooLarge.ensures.read in
    known_asks before mid bytes (received.Refused refusal.TooLarge) reads (λ left here. found_asks bytes fields found.TooLarge left (subst (IsFound bytes fields) c.in-Ok-TooLarge.field-0-is c.in-Ok-TooLarge.ensures.found))

pub returns-in-Ok-Cut-clause-asks : goal.returns-in-Ok-Cut-clause-asks
returns-in-Ok-Cut-clause-asks g c =
    let before = g.R.Read.remaining (device_of c.args.reader.now) in
    let mid = g.R.Read.remaining (device_of c.read_head.new.reader) in
    let bytes = c.read_head.new.bytes.items in
    let reads : Reads before mid [] bytes = subst (λ o. Reads before mid o bytes) c.new-bytes.ensures.items c.in-Ok-Cut.ensures.read in
    let fields = c.read_head.new.fields in
    cut_asks before mid bytes fields reads (subst (IsFound bytes fields) c.in-Ok-Cut.field-0-is c.in-Ok-Cut.ensures.found) (c.in-Ok-Cut.ensures.end c.in-Ok-Cut.field-0-is)

pub returns-clause-needs : goal.returns-clause-needs
returns-clause-needs g c =
    let before = g.R.Read.remaining (device_of c.args.reader.now) in
    let mid = g.R.Read.remaining (device_of c.read_head.new.reader) in
    let bytes = c.read_head.new.bytes.items in
    let reads : Reads before mid [] bytes = subst (λ o. Reads before mid o bytes) c.new-bytes.ensures.items c.in-Err.ensures.read in
    fault_needs before mid bytes c.in-Err.fault (has_failed c.args.reader.now) reads c.in-Err.ensures.limit c.in-Err.ensures.unread
    (λ failed. ap (λ v. v.items) (c.in-Err.ensures.again failed).2 ∙ c.new-bytes.ensures.items)
