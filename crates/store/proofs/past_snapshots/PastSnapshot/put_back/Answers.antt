use Rattle.std.proofs.Common.{◌≡◌, ◌∙◌, ap, sym, None, Some, option_map}
use Rattle.std.specs.Map.{remove_entry}
use Rattle.std.specs.BTreeMap.{is_at}
use Rattle.std.proofs.lemmas.Result.{on_ok_weaker}
use Rattle.shared_map.specs.Entries.{put_entry}
use Rattle.spec_api.specs.History.{put_or_remove}
use Rattle.object_keys.specs.Keys.{key_of}
use Rattle.meta.specs.declared.stored.StoredObject.{StoredObject}
use Rattle.selector.specs.Views.{view_of}
use Rattle.store.specs.Seen.{members_seen}
use Rattle.store.proofs.PutBack.{put_shown}
use Rattle.store.proofs.SeenMaps.{key_cmp, seen-put_entry, seen-remove_entry, ascending_seen}
use Rattle.store.proofs.past_snapshots.PastSnapshot.put_back.Goals as goal

pub returns-in-Some-clause-ok : goal.returns-in-Some-clause-ok
returns-in-Some-clause-ok c =
    let s = c.self.inside in
    let k = key_of c.args.key in
    let old = option_map (λ (o : StoredObject). o.value) c.args.object in
    let same : Some c.in-Some.object.value ≡ old = ap (option_map (λ (o : StoredObject). o.value)) (sym c.in-Some.is) in
    on_ok_weaker c.insert.result
    (λ (h : c.insert.new.self ≡ put_entry key_cmp s.objects (c.args.key, c.in-Some.object)).
    put_shown (view_of s.view) k old (members_seen s.objects) (members_seen c.insert.new.self) c.args.self.now (ascending_seen s.objects c.insert.ensures.ordered)
    (ap members_seen h ∙ seen-put_entry s.objects (c.args.key, c.in-Some.object) ∙ ap (put_or_remove (members_seen s.objects) k) same) c.self.view_is)
    c.insert.ensures.ok

pub returns-in-None-clause-ok : goal.returns-in-None-clause-ok
returns-in-None-clause-ok c =
    let s = c.self.inside in
    let k = key_of c.args.key in
    let old = option_map (λ (o : StoredObject). o.value) c.args.object in
    let same : None ≡ old = ap (option_map (λ (o : StoredObject). o.value)) (sym c.in-None.is) in
    on_ok_weaker c.remove.result
    (λ (h : c.remove.new.self ≡ remove_entry (is_at (key_cmp c.args.key)) s.objects).
    put_shown (view_of s.view) k old (members_seen s.objects) (members_seen c.remove.new.self) c.args.self.now (ascending_seen s.objects c.remove.ensures.ordered)
    (ap members_seen h ∙ seen-remove_entry s.objects c.args.key ∙ ap (put_or_remove (members_seen s.objects) k) same) c.self.view_is)
    c.remove.ensures.ok
