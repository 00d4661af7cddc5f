-- Steps one after the other.
use Rattle.std.proofs.Common.{Bool, true, false, ◌≡◌, Option, Some, None, Result, Ok, Err, IfSome, refl, subst, sym}
use Rattle.skopeo_outside.specs.Steps.{Step, Says, SaysBy, Then, goes, stops, ◌>>=◌, given, Course, EndsBy, EndsOf, EndsAs, Ends}

-- a step that answered a value leaves the rest to the next
pub then_ends : {S E A B : Type 0} (course : Course S E) (p : Step S E A) (q : A → Step S E B) (a b c : S) (x : A) (r : Result B E) → Ends course p a b (Ok x) → Ends course (q x) b c r → Ends course (p >>= q) a c r
unfolding Ends
then_ends {S} {E} {A} {B} course p q a b c x r one two = record { later = course.later_then a b c one.later two.later; ends = rest r two.ends }
  where
    by : (f : Bool) (e : E) → EndsBy f course e (q x) b c → EndsBy {A = B} f course e (p >>= q) a c
    by true e end = course.shows_earlier e a b c one.later end
    by false e end = goes a b c x (Err e) one.ends end

    rest : (r : Result B E) → EndsOf course (q x) b c r → EndsOf course (p >>= q) a c r
    rest (Ok y) end = goes a b c x (Ok y) one.ends end
    rest (Err e) end = by (course.is_free e) e end

-- a step that refused ends the walk
pub then_stops : {S E A B : Type 0} (course : Course S E) (p : Step S E A) (q : A → Step S E B) (a c : S) (e : E) → Ends course p a c (Err e) → Ends course (p >>= q) a c (Err e)
unfolding Ends
then_stops {S} {E} {A} {B} course p q a c e one = record { later = one.later; ends = by (course.is_free e) one.ends }
  where
    by : (f : Bool) → EndsBy {A = A} f course e p a c → EndsBy {A = B} f course e (p >>= q) a c
    by true end = end
    by false end = stops a c e end

-- a step that looks at nothing outside, ahead of others
pub given_goes : {S E A B : Type 0} (course : Course S E) (w : Result A E) (q : A → Step S E B) (a c : S) (x : A) (r : Result B E) → Says course w (Ok x) → Ends course (q x) a c r → Ends course (given w >>= q) a c r
unfolding given Ends Says
given_goes course w q a c x r says next = then_ends course (given w) q a a c x r (record { later = course.later_same a; ends = (refl, sym says) }) next

pub given_stops : {S E A B : Type 0} (course : Course S E) (w : Result A E) (q : A → Step S E B) (a : S) (e : E) → Says course w (Err e) → Ends course (given w >>= q) a a (Err e)
unfolding given Ends Says
given_stops {S} {E} {A} {B} course w q a e says = record { later = course.later_same a; ends = by (course.is_free e) says }
  where
    by : (f : Bool) → SaysBy f course w e → EndsBy {A = B} f course e (given w >>= q) a a
    by true says = says a
    by false says = stops a a e (refl, sym says)

-- the same, at the end
pub given_ends : {S E A : Type 0} (course : Course S E) (w r : Result A E) (a : S) → Says course w r → Ends course (given w) a a r
unfolding given Ends Says
given_ends course w (Ok x) a says = record { later = course.later_same a; ends = (refl, sym says) }
given_ends {S} {E} {A} course w (Err e) a says = record { later = course.later_same a; ends = by (course.is_free e) says }
  where
    by : (f : Bool) → SaysBy f course w e → EndsBy {A = A} f course e (given w) a a
    by true says = says a
    by false says = (refl, sym says)
