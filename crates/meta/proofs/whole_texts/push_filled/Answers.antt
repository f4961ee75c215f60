use Rattle.std.proofs.Common.{◌≡◌, ◌-◌, arith, ◌∙◌, ◌++◌, ap, codes, take, drop, slice_range, string_bytes}
use Rattle.meta.specs.WholeTexts.{named_member, version_member, kind_member}
use Rattle.meta.proofs.WholeTexts.{five_pushed}
use Rattle.meta.proofs.whole_texts.push_filled.Goals as goal

pub returns : goal.returns
returns c =
    let kind = c.args.kind in
    let places = c.args.places in
    let item = c.args.item.now in
    let from_start : places.version - 0 ≡ places.version = omega arith in
    five_pushed (string_bytes c.args.text.now) (take places.version item) (version_member kind) (slice_range item places.version places.kind) (kind_member kind) (drop places.kind item)
    (string_bytes c.push_str.new.self) (string_bytes c.push_member.new.text) (string_bytes c.push_str-2.new.self) (string_bytes c.push_member-2.new.text) (string_bytes c.push_str-3.new.self)
    (c.in_ok-push_str.ensures.bytes ∙ ap (λ s. string_bytes c.args.text.now ++ s) (c.range.ensures.value ∙ ap (λ n. take n item) from_start))
    (c.in_ok-push_member.ensures ∙ ap (λ s. string_bytes c.push_str.new.self ++ named_member (codes "\"apiVersion\":\"") s) c.api_version.ensures)
    (c.in_ok-push_str-2.ensures.bytes ∙ ap (λ s. string_bytes c.push_member.new.text ++ s) c.range-2.ensures.value)
    (c.in_ok-push_member-2.ensures ∙ ap (λ s. string_bytes c.push_str-2.new.self ++ named_member (codes "\"kind\":\"") s) c.name.ensures)
    (c.in_ok-push_str-3.ensures.bytes ∙ ap (λ s. string_bytes c.push_member-2.new.text ++ s) c.range_from.ensures.value)
