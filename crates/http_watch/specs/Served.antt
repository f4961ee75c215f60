-- What becomes of a watch.
use Rattle.std.specs.Prelude.{◌≡◌, ◌⊎◌, ℕ, List, ◌++◌, Bool, true, false, Option, Result, Ok, Err}
use Rattle.spec_api.specs.declared.versions.Start.{Start}
use Rattle.spec_api.specs.History.{View}
use Rattle.spec_api.specs.Refusals.{Refusal}
use Rattle.spec_api.specs.Versions.{Listed}
use Rattle.chunked.specs.Devices.{AppendsBeginning, device_of, has_failed}
use Rattle.chunked.specs.declared.watched.Watched.{Watched}
use Rattle.std.specs.Io.KnownBytes.{Appends}
use Rattle.http_watch.specs.declared.fault.Cut.{Cut}
use Rattle.http_watch.specs.declared.fault.Cut.TheVariants as cut
use Rattle.http_watch.specs.declared.fault.WatchFault.{WatchFault}
use Rattle.http_watch.specs.declared.fault.WatchFault.TheVariants as left
use Rattle.http_watch.specs.Watches.{Look, Opening, Opens, Looks, Ends, look_frames, ended_frames, opening_text}
use Rattle.http_watch.specs.Opened.{Refuses}

-- whether the writer has failed, where a watch is left
abbrev pub has_writer_failed : Cut → Bool
has_writer_failed cut.Device = true
has_writer_failed cut.NoMemory = false

-- the text was written; or a watch is left so within it, and a beginning was
abbrev pub WritesInParts : {D : Type 0} → List ℕ → (D → Option (List ℕ)) → Watched D → Watched D → Result (Unit {0}) Cut → Type 0
WritesInParts text contents old new (Ok u) = (has_failed new ≡ false) × Appends (contents (device_of old)) (contents (device_of new)) text
WritesInParts text contents old new (Err c) = (has_failed new ≡ has_writer_failed c) × AppendsBeginning (contents (device_of old)) (contents (device_of new)) text

module _ {S D : Type 0} (watches : S → View → ℕ → ℕ → Look → S → Type 0) (v : View) (bookmarks : Bool) (contents : D → Option (List ℕ)) where
  -- a beginning of the opening and of the frames of these looks was written; of the end only where the looks end the watch
  abbrev pub IsLeft : Watched D → Watched D → List ℕ → ℕ → ℕ → List Look → Type 0
  IsLeft before after opening at idle looks =
      AppendsBeginning (contents (device_of before)) (contents (device_of after)) (opening ++ look_frames v.kind bookmarks at looks)
      ⊎ (Ends bookmarks at idle looks × AppendsBeginning (contents (device_of before)) (contents (device_of after)) (opening ++ ended_frames v.kind bookmarks at looks))

  -- from where a watch stands looks were made, and their frames were written after these bytes: with the end, where they end it
  abbrev pub Follows : S → S → Watched D → Watched D → List ℕ → ℕ → ℕ → Result (Unit {0}) Cut → Type 0
  Follows s t before after opening at idle (Ok u) =
      (looks : List Look) × Looks watches v s at looks t × Ends bookmarks at idle looks
      × Appends (contents (device_of before)) (contents (device_of after)) (opening ++ ended_frames v.kind bookmarks at looks)
  Follows s t before after opening at idle (Err c) =
      (looks : List Look) × Looks watches v s at looks t × IsLeft before after opening at idle looks × (has_failed after ≡ has_writer_failed c)

module _ {S D : Type 0} (begins : S → View → Option ℕ → Result Listed Refusal → S → Type 0) (watches : S → View → ℕ → ℕ → Look → S → Type 0) (v : View) (bookmarks : Bool)
    (contents : D → Option (List ℕ)) where
  -- the watch opened and went on; or it was refused, and nothing was written
  abbrev pub Serves : S → S → Watched D → Watched D → Start → Result (Unit {0}) WatchFault → Type 0
  Serves s t before after start (Ok u) =
      (o : Opening) × (mid : S) × Opens begins watches v bookmarks s start (Ok o) mid × Follows watches v bookmarks contents mid t before after (opening_text v.kind o) o.stands o.idle (Ok u)
  Serves s t before after start (Err (left.Cut c)) =
      (o : Opening) × (mid : S) × Opens begins watches v bookmarks s start (Ok o) mid × Follows watches v bookmarks contents mid t before after (opening_text v.kind o) o.stands o.idle (Err c)
  Serves s t before after start (Err (left.Refused e)) = Refuses begins watches v bookmarks s t start e × (after ≡ before)
