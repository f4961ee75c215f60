-- What versions, uids and owner references tell of objects, whenever they were there and whoever asked.
use Rattle.std.specs.Prelude.{◌≡◌, ◌≤◌, ◌-◌, ℕ, List, [], ◌∷◌, false, Some, None, IfSome, codes, decimal, slice_get}
use Rattle.serde_json.specs.Data.{Data}
use Rattle.spec_api.specs.Checks.{is_of_the_future}
use Rattle.spec_api.specs.History.{History, writes, present, state}
use Rattle.spec_api.specs.Metadata.{Owner, owners, uid, version}
use Rattle.spec_api.specs.Keys.{Key}
use Rattle.spec_api.specs.Reached.{IsReached}
use Rattle.spec_api.specs.Uids.{uid_text, cluster_word}
use Rattle.spec_laws.specs.HistoryLaws.{KeepsText}

-- ---- versions

-- the write of a revision put this under a key
abbrev pub Put : History → ℕ → Key → Data → Type 0
Put h r k d = (2 ≤ r) × (r ≤ present h) × (slice_get (writes h) (r - 2) ≡ Some (record { key = k; put = Some d }))

-- an object that is there is what the write of its version put
abbrev pub VersionsTellWrites : Type 0
VersionsTellWrites =
    (h : History) (r : ℕ) (k : Key) (d : Data) → IsReached h → state h r k ≡ Some d
    → (v : ℕ) × (version d ≡ Some (decimal v)) × (v ≤ r) × Put h v k d

-- two objects, whenever they were there, that name one version are one
abbrev pub VersionsNameOneWrite : Type 0
VersionsNameOneWrite =
    (h : History) (r s : ℕ) (k l : Key) (d e : Data) → IsReached h → state h r k ≡ Some d → state h s l ≡ Some e → version d ≡ version e
    → (k ≡ l) × (d ≡ e)

-- ---- uids

-- the write of a revision created an object with a uid under a key where none was
abbrev pub Created : History → ℕ → Key → List ℕ → Type 0
Created h c k t = (d : Data) × Put h c k d × (uid d ≡ Some t) × (state h (c - 1) k ≡ None)

-- what was under a key at a revision was this object, with its uid, and being deleted since the same moment if it was
abbrev pub Stood : History → ℕ → Key → Data → Type 0
Stood h s k d = (was : Data) × (state h s k ≡ Some was) × (uid was ≡ uid d) × KeepsText (codes "deletionTimestamp") was d

-- an object that is there has the uid of the revision that created it under its key, and has stood there ever since
abbrev pub UidsTellCreates : Type 0
UidsTellCreates =
    (h : History) (r : ℕ) (k : Key) (d : Data) → IsReached h → r ≤ present h → state h r k ≡ Some d
    → (c : ℕ) × (c ≤ r) × (uid d ≡ Some (uid_text cluster_word c)) × Created h c k (uid_text cluster_word c) × ((s : ℕ) → c ≤ s → s ≤ r → Stood h s k d)

-- a uid is given once: two objects, whenever they were there, that have one uid have one key
abbrev pub UidsAreGivenOnce : Type 0
UidsAreGivenOnce =
    (h : History) (r s : ℕ) (k l : Key) (d e : Data) → IsReached h → r ≤ present h → s ≤ present h → state h r k ≡ Some d → state h s l ≡ Some e → uid d ≡ uid e
    → k ≡ l

-- and what has a uid twice has it at each revision between: what is gone is not there again, and what is being deleted stays so
abbrev pub DeletionsStand : Type 0
DeletionsStand =
    (h : History) (r s t : ℕ) (k : Key) (d e : Data) → IsReached h → r ≤ s → s ≤ t → t ≤ present h → state h r k ≡ Some d → state h t k ≡ Some e → uid d ≡ uid e
    → Stood h s k e

-- ---- references

abbrev pub Each : {A : Type 0} → (A → Type 0) → List A → Type 0
Each P [] = Unit {0}
Each P (x ∷ xs) = P x × Each P xs

-- a reference that names no object of this server whose create came after a revision
abbrev pub IsKnown : ℕ → Owner → Type 0
IsKnown r o = IfSome o.uid (λ t. is_of_the_future r t ≡ false)

-- an object that is there at a revision names none that was created at that revision or is still to be created
abbrev pub OwnersAreKnown : Type 0
OwnersAreKnown = (h : History) (r : ℕ) (k : Key) (d : Data) → IsReached h → r ≤ present h → state h r k ≡ Some d → Each (IsKnown (r - 1)) (owners d)
