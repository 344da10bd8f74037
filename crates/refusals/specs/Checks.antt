-- How a call answers after checks in order, and what the place that it fills holds then.
use Rattle.std.specs.Prelude.{◌≡◌, Bool, true, false, Some, None, Ok, Err, Option, Result}

-- a check that has to hold before what follows it counts
abbrev pub need : {T E : Type 0} → Bool → E → Result T E → Result T E
need true fault rest = rest
need false fault rest = Err fault

-- a value that has to be there before what follows it counts
abbrev pub having : {T U E : Type 0} → Option T → E → (T → Result U E) → Result U E
having None fault rest = Err fault
having (Some x) fault rest = rest x

-- what must not be found before what follows it counts: the fault is that of what is found
abbrev pub lacking : {T U E : Type 0} → Option T → (T → E) → Result U E → Result U E
lacking None fault rest = rest
lacking (Some x) fault rest = Err (fault x)

-- what follows an accepted part
abbrev pub after : {T U E : Type 0} → Result T E → (T → Result U E) → Result U E
after (Ok x) rest = rest x
after (Err fault) rest = Err fault

-- what a call leaves: the new if it is accepted, and the old if it is refused
abbrev pub left : {T E X : Type 0} → Result T E → X → X → X
left (Ok _) new old = new
left (Err _) new old = old

-- a call that fills a place: the outcome is so of what the place holds afterwards, or of the fault, which leaves the place as it was
abbrev pub Fills : {T E : Type 0} → (Result T E → Type 0) → T → T → Result (Unit {0}) E → Type 0
Fills Outcome old new (Ok u) = Outcome (Ok new)
Fills Outcome old new (Err fault) = Outcome (Err fault) × (new ≡ old)
