-- A watch under way.
use Rattle.std.proofs.Common.{◌≡◌, ◌≤◌, ◌<◌, inl, inr, ℕ, List, [], ◌∷◌, ◌++◌, Bool, false, Option, Some, None, Result, Ok, Err, refl, sym, ap, subst, ◌∙◌, append_assoc, append-nil}
use Rattle.std.proofs.KnownBytes.{Appends-trans}
use Rattle.std.specs.Io.KnownBytes.{Appends}
use Rattle.spec_api.specs.History.{View}
use Rattle.spec_api.specs.Versions.{Watched}
use Rattle.spec_api.specs.WatchReplies.{told_lines}
use Rattle.chunked.specs.Bodies.{last_chunk}
use Rattle.chunked.specs.Devices.{AppendsBeginning, device_of, has_failed}
use Rattle.chunked.specs.declared.watched.Watched as device
use Rattle.spec_http.specs.Replies.{frames_text}
use Rattle.http_watch.specs.declared.fault.Cut.{Cut}
use Rattle.http_watch.specs.declared.fault.Cut.TheVariants as cut
use Rattle.http_watch.specs.declared.standing.WatchStanding.{WatchStanding}
use Rattle.http_watch.specs.Looked.{Writes, LooksOnce}
use Rattle.http_watch.specs.Served.{Follows, WritesInParts}
use Rattle.http_watch.specs.Watches.{Look, Looks, Ends, look_frames, ended_frames, idle_after, most_events, most_idle}

pub appends_none : (known : Option (List ℕ)) → Appends known known []
appends_none None = tt
appends_none (Some xs) = sym (append-nil xs)

-- text and then a beginning of more is a beginning of both
pub begun_then : (before now after : Option (List ℕ)) (text more : List ℕ) → Appends before now text → AppendsBeginning now after more → AppendsBeginning before after (text ++ more)
begun_then before now after text more a b =
    (text ++ b.0, b.1, Appends-trans before now after text b.0 a b.2, append_assoc text b.0 b.1 ∙ ap (λ t. text ++ t) b.3)

-- all of a text is a beginning of it and more
begun_by : (before after : Option (List ℕ)) (text more : List ℕ) → Appends before after text → AppendsBeginning before after (text ++ more)
begun_by before after text more a = (text, more, a, refl)

module _ {S D : Type 0} (watches : S → View → ℕ → ℕ → Look → S → Type 0) (v : View) (b : Bool) (contents : D → Option (List ℕ)) where
  -- looks were made and their frames written, and whatever looks are made from here on, they are the further looks of the watch
  pub record IsUnderWay (s : S) (at idle : ℕ) (t : S) (now_at now_idle : ℕ) (before after : device.Watched D) : Type 0 where
    pub looks : List Look
    pub made : (more : List Look) (u : S) → Looks watches v t now_at more u → Looks watches v s at (looks ++ more) u
    pub frames : (more : List Look) → look_frames v.kind b at (looks ++ more) ≡ look_frames v.kind b at looks ++ look_frames v.kind b now_at more
    pub ends : (more : List Look) → Ends b now_at now_idle more → Ends b at idle (looks ++ more)
    pub written : Appends (contents (device_of before)) (contents (device_of after)) (look_frames v.kind b at looks)
    pub sound : has_failed after ≡ false

  pub starts : (s : S) (at idle : ℕ) (w : device.Watched D) → has_failed w ≡ false → IsUnderWay s at idle s at idle w w
  starts s at idle w sound =
      record { looks = []; made = λ more u l. l; frames = λ more. refl; ends = λ more e. e; written = appends_none (contents (device_of w)); sound = sound }

  -- one look more that was given something
  pub goes_on : (s : S) (at idle : ℕ) (t u : S) (now_at now_idle : ℕ) (before now after : device.Watched D) (w : Watched) → IsUnderWay s at idle t now_at now_idle before now
      → watches t v now_at most_events (Ok w) u → now_idle < most_idle
      → Appends (contents (device_of now)) (contents (device_of after)) (look_frames v.kind b now_at (Ok w ∷ [])) → has_failed after ≡ false
      → IsUnderWay s at idle u w.stands (idle_after now_idle (told_lines b now_at w)) before after
  goes_on s at idle t u now_at now_idle before now after w h g lt a sound =
      let some = look_frames v.kind b at h.looks in
      let new = frames_text v.kind (told_lines b now_at w) in
      let again : (more : List Look) → h.looks ++ (Ok w ∷ more) ≡ (h.looks ++ (Ok w ∷ [])) ++ more = λ more. sym (append_assoc h.looks (Ok w ∷ []) more) in
      let whole : look_frames v.kind b at (h.looks ++ (Ok w ∷ [])) ≡ some ++ new = h.frames (Ok w ∷ []) ∙ ap (λ t. some ++ t) (append-nil new) in
      record {
        looks = h.looks ++ (Ok w ∷ []);
        made = λ more z l. subst (λ ls. Looks watches v s at ls z) (again more) (h.made (Ok w ∷ more) z (u, g, l));
        frames = λ more.
            ap (look_frames v.kind b at) (sym (again more))
            ∙ h.frames (Ok w ∷ more)
            ∙ sym (append_assoc some new (look_frames v.kind b w.stands more))
            ∙ ap (λ t. t ++ look_frames v.kind b w.stands more) (sym whole);
        ends = λ more e. subst (λ ls. Ends b at idle ls) (again more) (h.ends (Ok w ∷ more) (lt, e));
        written = subst (Appends (contents (device_of before)) (contents (device_of after))) (sym (h.frames (Ok w ∷ [])))
            (Appends-trans _ _ _ some (look_frames v.kind b now_at (Ok w ∷ [])) h.written a);
        sound = sound;
      }

  -- the same by what is known of a look
  pub went_on : (s : S) (at idle : ℕ) (t u : S) (place next : WatchStanding) (before now after : device.Watched D) → IsUnderWay s at idle t place.revision place.idle before now
      → place.idle < most_idle → LooksOnce watches v b place t u contents now after (Ok (Some next)) → IsUnderWay s at idle u next.revision next.idle before after
  went_on s at idle t u place next before now after h lt (Ok w, g, put, stands) =
      subst (λ r. IsUnderWay s at idle u r next.idle before after) (sym stands.0)
      (subst (λ i. IsUnderWay s at idle u w.stands i before after) (sym stands.1) (goes_on s at idle t u place.revision place.idle before now after w h g lt put.1 put.0))
  went_on s at idle t u place next before now after h lt (Err f, g, put, stands) = absurd stands

  -- looks that end a watch, and what is written after them
  pub finished : (s t : S) (at idle : ℕ) (before now after : device.Watched D) (looks : List Look) (r : Result (Unit {0}) Cut) → Looks watches v s at looks t → Ends b at idle looks
      → Appends (contents (device_of before)) (contents (device_of now)) (look_frames v.kind b at looks) → has_failed now ≡ false → Writes last_chunk contents now after r
      → Follows watches v b contents s t before after [] at idle r
  finished s t at idle before now after looks (Ok u) l e a sound x = (looks, l, e, Appends-trans _ _ _ (look_frames v.kind b at looks) last_chunk a x.1)
  finished s t at idle before now after looks (Err cut.Device) l e a sound x = (looks, l, inr (e, begun_then _ _ _ (look_frames v.kind b at looks) last_chunk a x.1), x.0)
  finished s t at idle before now after looks (Err cut.NoMemory) l e a sound x = (
    looks,
    l,
    inr (e, subst (λ w. AppendsBeginning (contents (device_of before)) (contents (device_of w)) (ended_frames v.kind b at looks)) (sym x) (begun_by _ _ (look_frames v.kind b at looks) last_chunk a)),
    ap has_failed x ∙ sound,
  )

  -- after 1,024 looks that gave no line
  pub idles_out : (s : S) (at idle : ℕ) (t : S) (now_at now_idle : ℕ) (before now after : device.Watched D) (r : Result (Unit {0}) Cut) → IsUnderWay s at idle t now_at now_idle before now
      → most_idle ≤ now_idle → Writes last_chunk contents now after r → Follows watches v b contents s t before after [] at idle r
  idles_out s at idle t now_at now_idle before now after r h le x =
      finished s t at idle before now after h.looks r (subst (λ ls. Looks watches v s at ls t) (append-nil h.looks) (h.made [] t refl))
      (subst (λ ls. Ends b at idle ls) (append-nil h.looks) (h.ends [] le)) h.written h.sound x

  -- after a look that was refused
  pub ends_so : (s : S) (at idle : ℕ) (t u : S) (place : WatchStanding) (before now mid after : device.Watched D) (r : Result (Unit {0}) Cut)
      → IsUnderWay s at idle t place.revision place.idle before now → place.idle < most_idle → LooksOnce watches v b place t u contents now mid (Ok None)
      → Writes last_chunk contents mid after r → Follows watches v b contents s u before after [] at idle r
  ends_so s at idle t u place before now mid after r h lt (Ok w, g, put, stands) x = absurd stands
  ends_so s at idle t u place before now mid after r h lt (Err f, g, put, stands) x =
      finished s u at idle before mid after (h.looks ++ (Err f ∷ [])) r (h.made (Err f ∷ []) u (u, g, refl)) (h.ends (Err f ∷ []) (lt, refl))
      (subst (Appends (contents (device_of before)) (contents (device_of mid))) (sym (h.frames (Err f ∷ [])))
      (Appends-trans _ _ _ (look_frames v.kind b at h.looks) (look_frames v.kind b place.revision (Err f ∷ [])) h.written put.1)) put.0 x

  -- left within a look
  pub left_within : (s : S) (at idle : ℕ) (t u : S) (place : WatchStanding) (before now after : device.Watched D) (c : Cut)
      → IsUnderWay s at idle t place.revision place.idle before now → LooksOnce watches v b place t u contents now after (Err c)
      → Follows watches v b contents s u before after [] at idle (Err c)
  left_within s at idle t u place before now after cut.Device h (w, g, put, stands) = (
    h.looks ++ (w ∷ []),
    h.made (w ∷ []) u (u, g, refl),
    inl (subst (AppendsBeginning (contents (device_of before)) (contents (device_of after))) (sym (h.frames (w ∷ []))) (begun_then _ _ _ (look_frames v.kind b at h.looks) (look_frames v.kind b place.revision (w ∷ [])) h.written put.1)),
    put.0,
  )
  left_within s at idle t u place before now after cut.NoMemory h (w, g, put, stands) = (
    h.looks ++ (w ∷ []),
    h.made (w ∷ []) u (u, g, refl),
    inl (subst (λ d. AppendsBeginning (contents (device_of before)) (contents (device_of d)) (look_frames v.kind b at (h.looks ++ (w ∷ [])))) (sym put)
        (subst (AppendsBeginning (contents (device_of before)) (contents (device_of now))) (sym (h.frames (w ∷ []))) (begun_by _ _ (look_frames v.kind b at h.looks) (look_frames v.kind b place.revision (w ∷ [])) h.written))),
    ap has_failed put ∙ h.sound,
  )

  -- left between looks
  pub left_at : (s : S) (at idle : ℕ) (t : S) (now_at now_idle : ℕ) (before now : device.Watched D) → IsUnderWay s at idle t now_at now_idle before now
      → Follows watches v b contents s t before now [] at idle (Err cut.NoMemory)
  left_at s at idle t now_at now_idle before now h = (
    h.looks,
    subst (λ ls. Looks watches v s at ls t) (append-nil h.looks) (h.made [] t refl),
    inl (subst (AppendsBeginning (contents (device_of before)) (contents (device_of now))) (append-nil (look_frames v.kind b at h.looks)) (begun_by _ _ (look_frames v.kind b at h.looks) [] h.written)),
    h.sound,
  )

  -- the same after what was written before it
  pub follows_after : (s t : S) (before start after : device.Watched D) (text : List ℕ) (at idle : ℕ) (r : Result (Unit {0}) Cut)
      → Appends (contents (device_of before)) (contents (device_of start)) text → Follows watches v b contents s t start after [] at idle r
      → Follows watches v b contents s t before after text at idle r
  follows_after s t before start after text at idle (Ok u) a (looks, l, e, x) = (looks, l, e, Appends-trans _ _ _ text (ended_frames v.kind b at looks) a x)
  follows_after s t before start after text at idle (Err c) a (looks, l, inl x, f) = (looks, l, inl (begun_then _ _ _ text (look_frames v.kind b at looks) a x), f)
  follows_after s t before start after text at idle (Err c) a (looks, l, inr (e, x), f) = (looks, l, inr (e, begun_then _ _ _ text (ended_frames v.kind b at looks) a x), f)

  -- the opening was not written whole
  pub left_opening : (s : S) (before after : device.Watched D) (text : List ℕ) (at idle : ℕ) (c : Cut) → WritesInParts text contents before after (Err c)
      → Follows watches v b contents s s before after text at idle (Err c)
  left_opening s before after text at idle c (f, a) =
      ([], refl, inl (subst (AppendsBeginning (contents (device_of before)) (contents (device_of after))) (sym (append-nil text)) a), f)

  -- from where a watch that has opened stands
  pub opened_follows : (s t : S) (before after : device.Watched D) (text opening : List ℕ) (at idle stands idles : ℕ) (r : Result (Unit {0}) Cut) → at ≡ stands → idle ≡ idles
      → text ≡ opening → Follows watches v b contents s t before after text at idle r → Follows watches v b contents s t before after opening stands idles r
  opened_follows s t before after text opening at idle stands idles r e i o f =
      subst (λ x. Follows watches v b contents s t before after x stands idles r) o
      (subst (λ x. Follows watches v b contents s t before after text stands x r) i (subst (λ x. Follows watches v b contents s t before after text x idle r) e f))
