-- A watch that has opened.
use Rattle.std.specs.Prelude.{◌≡◌, ◌⊎◌, ℕ, List, ◌++◌, Bool, Option, Result, Ok, Err}
use Rattle.spec_api.specs.declared.versions.Start.{Start}
use Rattle.spec_api.specs.History.{View}
use Rattle.spec_api.specs.Refusals.{Refusal}
use Rattle.spec_api.specs.Versions.{Listed}
use Rattle.object_keys.specs.Faults.{refusal_of}
use Rattle.object_keys.specs.declared.fault.Fault.{Fault}
use Rattle.object_keys.specs.declared.fault.Fault.TheVariants as fault
use Rattle.http_watch.specs.declared.opening.WatchStart.{WatchStart}
use Rattle.http_watch.specs.Watches.{Look, Opening, Opens, opening_text}

-- what it opens with: what is made of it, and what is still to be made
abbrev pub opening_of : WatchStart → List ℕ
opening_of r = r.text.items ++ r.rest

module _ {S : Type 0} (begins : S → View → Option ℕ → Result Listed Refusal → S → Type 0) (watches : S → View → ℕ → ℕ → Look → S → Type 0) (v : View) (bookmarks : Bool) where
  -- the watch is refused so, or out of memory after it opened
  abbrev pub Refuses : S → S → Start → Fault → Type 0
  Refuses s t start e = Opens begins watches v bookmarks s start (Err (refusal_of e)) t ⊎ ((e ≡ fault.NoMemory) × (o : Opening) × Opens begins watches v bookmarks s start (Ok o) t)

  -- it opened so, with this text; or it is refused
  abbrev pub IsOpened : Start → S → S → Result WatchStart Fault → Type 0
  IsOpened start s t (Ok r) =
      (o : Opening) × Opens begins watches v bookmarks s start (Ok o) t × (r.at.revision ≡ o.stands) × (r.at.idle ≡ o.idle) × (opening_of r ≡ opening_text v.kind o)
  IsOpened start s t (Err e) = Refuses s t start e
