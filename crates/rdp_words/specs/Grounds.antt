-- Documents 01 and 02: the numbers of the grounds, and an answer as the papers give it: 0 and a count, or the number of a ground and its place.
use Rattle.std.specs.Prelude.{ℕ, ◌≢◌, Option, Some, None, Result, Ok, Err}
use Rattle.rdp_words.specs.declared.grounds.Ground.{Ground}
use Rattle.rdp_words.specs.declared.grounds.Ground.TheVariants.{TooLong, NotWords, Cut, AfterSyncFull, Unset, FillOnFourBits, LoadMissing, TileMissing, PipeMissing, NotDrawn, Unaligned, OutsideMemory, WorkTooShort, OutputTooShort, NotEncodable, NoTextureMemory, NotRgba16, OutsideTexture, Unassigned, NoCommand, TooManyCommands, Unknown, Invalid, NotAtPlace, OtherLength, NoEntry, Unviewable, Damaged}
use Rattle.rdp_words.specs.declared.grounds.Refusal.{Refusal}

-- the number of a ground
abbrev pub number_of : Ground → ℕ
number_of TooLong = 1
number_of NotWords = 2
number_of Cut = 3
number_of AfterSyncFull = 4
number_of Unset = 5
number_of FillOnFourBits = 6
number_of LoadMissing = 7
number_of TileMissing = 8
number_of PipeMissing = 9
number_of NotDrawn = 10
number_of Unaligned = 11
number_of OutsideMemory = 12
number_of WorkTooShort = 13
number_of OutputTooShort = 14
number_of NotEncodable = 15
number_of NoTextureMemory = 16
number_of NotRgba16 = 17
number_of OutsideTexture = 18
number_of Unassigned = 19
number_of NoCommand = 20
number_of TooManyCommands = 21
number_of Unknown = 22
number_of Invalid = 23
number_of NotAtPlace = 24
number_of OtherLength = 25
number_of NoEntry = 26
number_of Unviewable = 27
number_of Damaged = 28

-- a number that no ground has
abbrev pub IsNoGround : ℕ → Type 0
IsNoGround number = (g : Ground) → number_of g ≢ number

-- a number and a place: 0 where nothing is refused
pub record Answer : Type 0 where
  pub number : ℕ
  pub place : ℕ

-- what an answer says in the papers' numbers
abbrev pub answered : Result ℕ Refusal → Answer
answered (Ok count) = record { number = 0; place = count }
answered (Err refusal) = record { number = number_of refusal.ground; place = refusal.place }

-- the papers' number of a ground, or 0 where nothing is refused
abbrev pub number_if : Option Ground → ℕ
number_if None = 0
number_if (Some g) = number_of g

abbrev pub number_unless : Result (Unit {0}) Ground → ℕ
number_unless (Ok _) = 0
number_unless (Err g) = number_of g
