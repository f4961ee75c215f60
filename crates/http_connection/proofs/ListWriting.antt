-- A list that is written, one part after the other.
use Rattle.std.proofs.Common.{◌≡◌, ◌≤◌, ℕ, List, [], ◌++◌, length, drop, Bool, Option, refl, sym, ap, ◌∙◌, append_assoc, arith, nat_lt, false}
use Rattle.std.proofs.KnownBytes.{Appends-nil, Appends-trans}
use Rattle.std.proofs.Math.ListN.{drop_of_length-le}
use Rattle.std.proofs.lemmas.List.{nil_from_length}
use Rattle.std.proofs.lemmas.Bool.{ltb-false}
use Rattle.http_connection.specs.declared.list_sending.ListSent.{ListSent}
use Rattle.http_connection.specs.declared.list_sending.ListSent.TheVariants as sent
use Rattle.http_connection.specs.declared.listing.Listing.{Listing}
use Rattle.http_connection.specs.Lists.{list_left, IsListBegun, ListWrites}
use Rattle.http_connection.specs.Sending.{IsSent}
use Rattle.http_connection.proofs.Writing.{left_of}

pub list_begun_none : (a : Option (List ℕ)) (l : Listing) → IsListBegun a a l (list_left l)
list_begun_none a l = ([], Appends-nil a, refl)

pub list_begun_more : (a b c : Option (List ℕ)) (l m : Listing) (left : List ℕ) → IsListBegun a b l (list_left m) → IsListBegun b c m left → IsListBegun a c l left
list_begun_more a b c l m left (first, appends, is) (second, more, then) =
    (first ++ second, Appends-trans a b c first second appends more, append_assoc first second left ∙ ap (λ t. first ++ t) then ∙ is)

-- one that is written on, as far as that goes now
pub list_written_more : (no_room : Bool) (a b c : Option (List ℕ)) (l m : Listing) (s : ListSent) → IsListBegun a b l (list_left m) → ListWrites no_room b c m s → ListWrites no_room a c l s
list_written_more no_room a b c l m sent.Whole begun more = list_begun_more a b c l m [] begun more
list_written_more no_room a b c l m (sent.Left n) begun more = list_begun_more a b c l m (list_left n) begun more
list_written_more no_room a b c l m sent.Failed begun (stopped, (left, more)) = (stopped, (left, list_begun_more a b c l m left begun more))

-- bytes of it that are written as far as this
pub list_sent_to : (a b : Option (List ℕ)) (l : Listing) (n : ℕ) → IsSent a b l.out.items l.taken n → IsListBegun a b l (drop n l.out.items ++ l.rest)
list_sent_to a b l n (put, appends, is) =
    (put, appends, sym (append_assoc put (drop n l.out.items) l.rest) ∙ ap (λ t. t ++ l.rest) (left_of l.out.items put l.taken n is))

-- one of which all that is made is written, and nothing is to be made
pub list_over : (l : Listing) → length l.out.items ≤ l.taken → nat_lt 0 (length l.rest) ≡ false → list_left l ≡ []
list_over l written none = ap (λ t. t ++ l.rest) (drop_of_length-le l.out.items written) ∙ nil_from_length l.rest (omega (arith, ltb-false 0 (length l.rest) none))
