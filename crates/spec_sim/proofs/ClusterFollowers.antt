-- What holds of the followers of a cluster, of each kind's, where the session or one follower changes.
use Rattle.std.proofs.Common.{◌≡◌, refl}
use Rattle.spec_api.specs.declared.kinds.Kind.{Kind}
use Rattle.spec_api.specs.declared.kinds.Kind.TheVariants.{ConfigMap, Pod, ReplicaSet, Deployment}
use Rattle.spec_api.specs.Replies.{Session}
use Rattle.spec_sim.specs.Followers.{Follower}
use Rattle.spec_sim.specs.Clusters.{Cluster, follower, with_follower}

-- with another session each follower stands as it stood
pub with_session : (P : Kind → Follower → Type 0) (c : Cluster) (s : Session) → ((k : Kind) → P k (follower k c)) → (k : Kind) → P k (follower k (record c { session = s }))
with_session P c s p ConfigMap = p ConfigMap
with_session P c s p Pod = p Pod
with_session P c s p ReplicaSet = p ReplicaSet
with_session P c s p Deployment = p Deployment

-- a move concerns the follower of its kind alone
pub with_moved : (P : Kind → Follower → Type 0) (c : Cluster) (k : Kind) (f : Follower) → P k f → ((j : Kind) → P j (follower j c)) → (j : Kind) → P j (follower j (with_follower k f c))
with_moved P c ConfigMap f q p ConfigMap = q
with_moved P c ConfigMap f q p Pod = p Pod
with_moved P c ConfigMap f q p ReplicaSet = p ReplicaSet
with_moved P c ConfigMap f q p Deployment = p Deployment
with_moved P c Pod f q p ConfigMap = p ConfigMap
with_moved P c Pod f q p Pod = q
with_moved P c Pod f q p ReplicaSet = p ReplicaSet
with_moved P c Pod f q p Deployment = p Deployment
with_moved P c ReplicaSet f q p ConfigMap = p ConfigMap
with_moved P c ReplicaSet f q p Pod = p Pod
with_moved P c ReplicaSet f q p ReplicaSet = q
with_moved P c ReplicaSet f q p Deployment = p Deployment
with_moved P c Deployment f q p ConfigMap = p ConfigMap
with_moved P c Deployment f q p Pod = p Pod
with_moved P c Deployment f q p ReplicaSet = p ReplicaSet
with_moved P c Deployment f q p Deployment = q

pub same_session : (c : Cluster) (k : Kind) (f : Follower) → (with_follower k f c).session ≡ c.session
same_session c ConfigMap f = refl
same_session c Pod f = refl
same_session c ReplicaSet f = refl
same_session c Deployment f = refl
