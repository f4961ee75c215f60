-- Whether a server is still the one that was followed, by what it says. Two servers never give one uid, one moment of creation and one revision to two objects.
use Rattle.std.specs.Prelude.{ℕ, ◌&&◌, ◌||◌, List, [], ◌∷◌, length, Bool, true, false, not, nat_eq, nat_le, nat_lt, bytes_eq, codes, Option, Some, None, option_map, option_and_then, unwrap_or, if◌then◌else◌}
use Rattle.std.specs.List.{list_any}
use Rattle.serde_json.specs.Data.{Data}
use Rattle.spec_api.specs.declared.kinds.Kind.{Kind}
use Rattle.spec_api.specs.History.{Entries, found}
use Rattle.spec_api.specs.Keys.{Key}
use Rattle.spec_api.specs.Metadata.{uid, version, metadata_text}
use Rattle.spec_api.specs.Objects.{Object}
use Rattle.spec_api.specs.Frames.{Frame}
use Rattle.spec_client_go.specs.Reflectors.{Listed, list_of, name_in, revision}
use Rattle.spec_client_go.specs.Shifts.{Shift}
use Rattle.http_client.specs.declared.answer.Answer.{Answer}
use Rattle.http_client.specs.declared.answer.Answer.TheVariants as answer
use Rattle.http_client.specs.declared.reply.HttpReply.{HttpReply}
use Rattle.list_and_watch.specs.declared.recognizing.Recognized.{Recognized}
use Rattle.list_and_watch.specs.declared.recognizing.Recognized.TheVariants.{Same, Other, Unknown, Unanswered}

-- ---- objects

-- the moment at which an object was created
abbrev pub creation : Data → Option (List ℕ)
creation d = metadata_text (codes "creationTimestamp") d

-- one text, or twice none
abbrev pub is_same_text : Option (List ℕ) → Option (List ℕ) → Bool
is_same_text None None = true
is_same_text None (Some t) = false
is_same_text (Some s) None = false
is_same_text (Some s) (Some t) = bytes_eq s t

-- one object, as one write left it
abbrev pub is_same_write : Data → Data → Bool
is_same_write d e = is_same_text (uid d) (uid e) && is_same_text (creation d) (creation e) && is_same_text (version d) (version e)

-- ---- what is answered to who asks for the first object at a revision

-- an object is in a copy under its name, as the same write left it
abbrev pub has : Object → Entries → Bool
has o ms = unwrap_or (option_map (is_same_write o.value) (found (name_in o) ms)) false

-- the first object of a list is in the copy; or neither has any
abbrev pub agrees : List Object → Entries → Bool
agrees [] ms = nat_eq (length ms) 0
agrees (o ∷ os) ms = has o ms

-- by a list at this revision it is the same server or another one; by a list at another revision neither is said
abbrev pub by_list : ℕ → Entries → Option Listed → Recognized
by_list r ms None = Unanswered
by_list r ms (Some l) = if nat_eq l.revision r then (if agrees l.objects ms then Same else Other) else Unknown

-- a refusal that is not for now: a client's error but 429, or 504, which is said of a revision that has not come yet (RFC 9110, Status Codes)
abbrev pub is_refusal : ℕ → Bool
is_refusal c = (nat_le 400 c && nat_lt c 500 && not (nat_eq c 429)) || nat_eq c 504

abbrev pub by_code : ℕ → Recognized
by_code c = if is_refusal c then Unknown else Unanswered

abbrev pub by_reply : Kind → ℕ → Entries → HttpReply → Recognized
by_reply k r ms p = if nat_eq p.code 200 then by_list r ms (list_of k p.body.items) else by_code p.code

-- who stands at a revision with these objects is answered so
abbrev pub recognized : Kind → ℕ → Entries → Answer → Recognized
recognized k r ms (answer.Replied p) = by_reply k r ms p
recognized k r ms answer.NotSent = Unanswered
recognized k r ms answer.Lost = Unanswered

-- ---- what is published

-- a uid that is kept while its object is created at another moment
abbrev pub is_created_again : Option Data → Option Data → Bool
is_created_again (Some d) (Some e) = is_same_text (uid d) (uid e) && not (is_same_text (creation d) (creation e))
is_created_again old new = false

abbrev pub uid_in : Option Data → Option (List ℕ)
uid_in o = option_and_then uid o

-- the uid that is no longer where it was
abbrev pub uid_left : Shift → Option (List ℕ)
uid_left s = if is_same_text (uid_in s.old) (uid_in s.new) then None else uid_in s.old

abbrev pub is_same_name : Key → Key → Bool
is_same_name a b = bytes_eq a.namespace b.namespace && bytes_eq a.name b.name

-- a change puts this uid where another name is
abbrev pub is_elsewhere : List ℕ → Key → Shift → Bool
is_elsewhere u k t = is_same_text (Some u) (uid_in t.new) && not (is_same_name k t.key)

abbrev pub has_moved : Option (List ℕ) → Key → List Shift → Bool
has_moved None k ss = false
has_moved (Some u) k ss = list_any (is_elsewhere u k) ss

-- a change shows another server by one uid that was created twice, or that has moved to another name
abbrev pub shows_other_in : List Shift → Shift → Bool
shows_other_in ss s = is_created_again s.old s.new || has_moved (uid_left s) s.key ss

abbrev pub shows_other_server : List Shift → Bool
shows_other_server ss = list_any (shows_other_in ss) ss

-- ---- what a watch sends

-- a revision below the last one, or else what is said of those after it
abbrev pub falls_at : ℕ → Option ℕ → (ℕ → Bool) → Bool
falls_at last None more = false
falls_at last (Some r) more = nat_lt r last || more r

-- whether the revisions of events and bookmarks fall, up to the first that names none
abbrev pub falls : ℕ → List Frame → Bool
falls last [] = false
falls last (e ∷ es) = falls_at last (revision e.object) (λ r. falls r es)
