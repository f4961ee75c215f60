-- Bodies in chunks, piece after piece.
use Rattle.std.proofs.Common.{◌≡◌, ◌⊎◌, inl, inr, ◌<◌, ℕ, List, [], ◌++◌, length, length-append, Option, Some, None, refl, sym, ap, ◌∙◌, subst, append_assoc, append-nil, arith}
use Rattle.std.proofs.KnownBytes.{Consumes-trans}
use Rattle.chunked.specs.Bodies.{IsBodyWithin, joined}
use Rattle.chunked.specs.Reading.{IsLeft, Passes, Reaches, Stops, longest_line}
use Rattle.chunked.specs.declared.fault.ChunkFault.TheVariants as fault
use Rattle.chunked.specs.declared.place.BodyPlace.{BodyPlace}
use Rattle.chunked.specs.declared.place.BodyPlace.TheVariants as place
use Rattle.chunked.proofs.Runs.{passes_more}
use Rattle.http_client.specs.Reading.{IfKnown}
use Rattle.http_client.specs.Replies.{IsNoBody, IsBodyLonger}

-- one piece after another
pub reaches_more : (before mid after : Option (List ℕ)) (p q s : BodyPlace) (first second new : List ℕ) → Reaches p before first q mid → Reaches q mid second s after → new ≡ first ++ second
    → Reaches p before new s after
reaches_more before mid after p q s first second new a b e =
    subst (λ t. Reaches p before t s after) (sym e) (a.0 ++ b.0, Consumes-trans before mid after a.0 b.0 a.1 b.1, passes_more p q s a.0 b.0 first second a.2 b.2)

-- a body that is left after what was read
on_left : (p : BodyPlace) (read content tail : List ℕ) (chunks : List (List ℕ)) (rest : List ℕ) → Passes place.Line read content p → IsBodyWithin longest_line chunks (read ++ tail) rest
    → (more : List ℕ) × IsLeft longest_line p tail more rest
on_left p read content tail chunks rest passes body =
    let on = passes.1 longest_line tail (joined chunks) rest (chunks, body, refl) in
    (on.0, on.2)

-- what stops by the peer was no body
stops_malformed : (p : BodyPlace) (xs ys content : List ℕ) (after : Option (List ℕ)) → Reaches place.Line (Some xs) content p (Some ys) → Stops p (Some ys) after fault.Malformed → IsNoBody xs
stops_malformed p xs ys content None reaches stops = absurd stops.1
stops_malformed p xs ys content (Some zs) (read, consumes, passes) (bytes, next, never) = λ chunks rest body.
    let on = on_left p read content ys chunks rest passes (subst (λ b. IsBodyWithin longest_line chunks b rest) consumes body) in
    never zs (on.0, rest, subst (λ t. IsLeft longest_line p t on.0 rest) next on.1)

stops_truncated : (p : BodyPlace) (xs ys content : List ℕ) (after : Option (List ℕ)) → Reaches place.Line (Some xs) content p (Some ys) → Stops p (Some ys) after fault.Truncated → IsNoBody xs
stops_truncated p xs ys content None reaches stops = absurd stops.1
stops_truncated p xs ys content (Some zs) (read, consumes, passes) stops = λ chunks rest body.
    let on = on_left p read content ys chunks rest passes (subst (λ b. IsBodyWithin longest_line chunks b rest) consumes body) in
    let all : ys ≡ stops.0 = stops.1 ∙ ap (λ t. stops.0 ++ t) stops.2 ∙ append-nil stops.0 in
    stops.3 longest_line (on.0, rest, subst (λ t. IsLeft longest_line p t on.0 rest) all on.1)

pub stopped : (before mid after : Option (List ℕ)) (p : BodyPlace) (content : List ℕ) → Reaches place.Line before content p mid
    → (Stops p mid after fault.Malformed) ⊎ (Stops p mid after fault.Truncated) → IfKnown before IsNoBody
stopped None mid after p content reaches stops = tt
stopped (Some xs) None after p content reaches stops = absurd reaches.1
stopped (Some xs) (Some ys) after p content reaches (inl stops) = stops_malformed p xs ys content after reaches stops
stopped (Some xs) (Some ys) after p content reaches (inr stops) = stops_truncated p xs ys content after reaches stops

-- what was read to the end is a whole body
pub body_there : (xs : List ℕ) (left : Option (List ℕ)) (content : List ℕ) → Reaches place.Line (Some xs) content place.Ended left
    → (chunks : List (List ℕ)) × (rest : List ℕ) × IsBodyWithin longest_line chunks xs rest × (content ≡ joined chunks)
body_there xs None content reaches = absurd reaches.1
body_there xs (Some ys) content (read, consumes, passes) =
    let whole = passes.0 longest_line ys [] ys (omega (arith)) (refl, refl) in
    (whole.0, ys, subst (λ b. IsBodyWithin longest_line whole.0 b ys) (sym consumes) whole.1, sym (append-nil content) ∙ whole.2)

-- what was read is longer than the limit, and so is any body that begins with it
pub longer_there : (most : ℕ) (before after : Option (List ℕ)) (p : BodyPlace) (content : List ℕ) → Reaches place.Line before content p after → most < length content
    → IfKnown before (IsBodyLonger most)
longer_there most None after p content reaches long = tt
longer_there most (Some xs) None p content reaches long = absurd reaches.1
longer_there most (Some xs) (Some ys) p content (read, consumes, passes) long = λ chunks rest body.
    let on = passes.1 longest_line ys (joined chunks) rest (chunks, subst (λ b. IsBodyWithin longest_line chunks b rest) consumes body, refl) in
    omega (arith, long, ap length on.1, length-append content on.0)
