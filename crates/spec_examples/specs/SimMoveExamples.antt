-- Worked facts of moves, computed from the definitions: what a follower is after steps.
use Rattle.std.specs.Prelude.{◌≡◌, ℕ, List, [], ◌∷◌, ◌++◌, map, Bool, true, false, Option, Some, None, option_map, codes, length, take}
use Rattle.spec_api.specs.declared.kinds.Kind.TheVariants.{ConfigMap, Pod}
use Rattle.spec_sim.specs.declared.initial_syncs.InitialSync.TheVariants as sync
use Rattle.spec_sim.specs.Followers.{Follower, begun}
use Rattle.spec_sim.specs.Clusters.{Cluster, opened, history, follower, looks, run}
use Rattle.spec_sim.specs.StepLines.{step_asked}
use Rattle.spec_examples.specs.SimTexts.{create, accent}

-- a cluster after these lines
abbrev after : List (List ℕ) → Cluster
after ts = run (opened 4 sync.List) (map step_asked ts)

abbrev config_maps_after : List (List ℕ) → Follower
config_maps_after ts = follower ConfigMap (after ts)

-- what was written as a link stands at a revision
abbrev stands : Follower → Option ℕ
stands f = option_map (λ l. l.stands) f.link

-- whether notifications are of the first list
abbrev marks : Follower → List Bool
marks f = map (λ n. n.is_in_initial_list) f.unhandled

-- the names of what they are of
abbrev names : Follower → List (List ℕ)
names f = map (λ n. n.shift.key.name) f.unhandled

-- a send of none where no change is left moves the link to the present revision; where one is left it does not
abbrev pub SendsOfNoneMove : Type 0
SendsOfNoneMove =
    (stands (follower Pod (after (codes "list pods" ∷ codes "watch pods" ∷ create (codes "a") [] ∷ codes "send pods 0" ∷ []))) ≡ Some 2)
    × (stands (config_maps_after (codes "list configmaps" ∷ codes "watch configmaps" ∷ create (codes "a") [] ∷ codes "send configmaps 0" ∷ [])) ≡ Some 1)

-- what the first list changed is told as that, and a change that is published with it is not
abbrev pub FirstListsAreMarked : Type 0
FirstListsAreMarked =
    let f = config_maps_after (create (codes "a") [] ∷ codes "list configmaps" ∷ codes "watch configmaps" ∷ create (codes "b") [] ∷ codes "send configmaps 1" ∷ codes "deliver configmaps all" ∷ codes "publish configmaps" ∷ []) in
    (names f ≡ codes "a" ∷ codes "b" ∷ []) × (marks f ≡ true ∷ false ∷ []) × (f.has_listed ≡ true)

-- nor is what a later list changed
abbrev pub LaterListsAreNotMarked : Type 0
LaterListsAreNotMarked =
    let f =
    config_maps_after
    (create (codes "a") [] ∷ codes "list configmaps" ∷ codes "publish configmaps" ∷ codes "compact 2" ∷ create (codes "b") [] ∷ codes "compact 3" ∷ codes "watch configmaps" ∷ codes "list configmaps"
    ∷ codes "publish configmaps" ∷ []) in
    (names f ≡ codes "a" ∷ codes "b" ∷ []) × (marks f ≡ true ∷ false ∷ [])

-- a restart leaves nothing of what followed the server, and all that has happened at it
abbrev pub RestartsDropAll : Type 0
RestartsDropAll =
    let c = after (create (codes "a") [] ∷ codes "list configmaps" ∷ codes "publish configmaps" ∷ codes "watch configmaps" ∷ codes "restart" ∷ []) in
    (follower ConfigMap c ≡ begun sync.List ConfigMap) × ((looks c).config_maps ≡ []) × (length (history c) ≡ 1)

-- part of a frame is buffered by the reflector
abbrev partly_read : List (List ℕ)
partly_read =
    create (codes "a") [] ∷ codes "list configmaps" ∷ codes "watch configmaps" ∷ create (codes "b") [] ∷ codes "send configmaps 1" ∷ codes "deliver configmaps 10" ∷ []

-- a cut drops it, and leaves what waits to be published
abbrev pub CutsDropParts : Type 0
CutsDropParts =
    let f = config_maps_after (partly_read ++ codes "cut configmaps" ∷ []) in
    ((config_maps_after partly_read).reflector.buffered ≡ codes "{\"object\":") × (f.reflector.buffered ≡ []) × (f.link ≡ None) × (length f.informer.pending ≡ 1)

-- a delivery counts bytes: of a letter of two bytes the first is taken in, and the other waits
abbrev pub DeliveriesCountBytes : Type 0
DeliveriesCountBytes =
    let f =
    config_maps_after
    (codes "list configmaps" ∷ codes "watch configmaps" ∷ create (codes "b") accent ∷ codes "send configmaps 1" ∷ codes "deliver configmaps 43" ∷ []) in
    (f.reflector.buffered ≡ codes "{\"object\":{\"apiVersion\":\"v1\",\"data\":{\"k\":\"" ++ 195 ∷ []) × (option_map (λ l. take 1 l.unread) f.link ≡ Some (169 ∷ []))
