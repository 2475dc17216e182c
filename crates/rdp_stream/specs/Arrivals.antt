-- What the code has of a list that arrives, as what is known of it.
use Rattle.std.specs.Prelude.{ℕ, true, false, Option, None, Result, Ok, Err, ◌≡◌, take}
use Rattle.rdp_words.specs.Kinds.{among}
use Rattle.rdp_words.specs.Grounds.{number_if, answered}
use Rattle.rdp_words.specs.declared.grounds.Ground.{Ground}
use Rattle.rdp_words.specs.declared.grounds.Ground.TheVariants.{Damaged}
use Rattle.rdp_stream.specs.declared.Stream.{Stream}
use Rattle.rdp_stream.specs.declared.Fed as made
use Rattle.rdp_stream.specs.declared.arrival.Arrival.{Arrival}
use Rattle.rdp_stream.specs.Portions.{Feeding}
use Rattle.rdp_stream.specs.Records.{Fed, remembered, is_damaged, feeding_of}

abbrev pub known : Arrival → Feeding
known a = record { standing = a.standing; held = take a.held_count a.held; taken = a.taken; number = number_if a.ground; place = a.place }

-- no refusal is remembered
abbrev pub IsOpen : Arrival → Type 0
IsOpen a = a.ground ≡ None

-- the ground of a remembered number, or 28
abbrev pub IsRemembered : ℕ → Result (Option Ground) Ground → Type 0
IsRemembered number (Ok g) = (number_if g ≡ number) × (among number remembered ≡ true)
IsRemembered number (Err g) = (g ≡ Damaged) × (among number remembered ≡ false)

-- what a record stands for, or 28
abbrev pub IsRead : Stream → Result Arrival Ground → Type 0
IsRead r (Ok a) = (known a ≡ feeding_of r) × (is_damaged r ≡ false)
IsRead r (Err g) = (g ≡ Damaged) × (is_damaged r ≡ true)

-- a call's record and its answer in the papers' numbers
abbrev pub fed : made.Fed → Fed
fed f = record { after = f.after; answer = answered f.answer }
