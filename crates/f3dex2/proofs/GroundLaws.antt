-- No ground has the number 0. Assumes nothing.
use Rattle.std.proofs.Common.{◌≡◌, refl, false, eqb}
use Rattle.rdp_words.specs.Grounds.{number_of}
use Rattle.rdp_words.specs.declared.grounds.Ground.{Ground}
use Rattle.rdp_words.specs.declared.grounds.Ground.TheVariants.{TooLong, NotWords, Cut, AfterSyncFull, Unset, FillOnFourBits, LoadMissing, TileMissing, PipeMissing, NotDrawn, Unaligned, OutsideMemory, WorkTooShort, OutputTooShort, NotEncodable, NoTextureMemory, NotRgba16, OutsideTexture, Unassigned, NoCommand, TooManyCommands, Unknown, Invalid, NotAtPlace, OtherLength, NoEntry, Unviewable, Damaged}

pub never-zero : (g : Ground) → eqb (number_of g) 0 ≡ false
never-zero TooLong = refl
never-zero NotWords = refl
never-zero Cut = refl
never-zero AfterSyncFull = refl
never-zero Unset = refl
never-zero FillOnFourBits = refl
never-zero LoadMissing = refl
never-zero TileMissing = refl
never-zero PipeMissing = refl
never-zero NotDrawn = refl
never-zero Unaligned = refl
never-zero OutsideMemory = refl
never-zero WorkTooShort = refl
never-zero OutputTooShort = refl
never-zero NotEncodable = refl
never-zero NoTextureMemory = refl
never-zero NotRgba16 = refl
never-zero OutsideTexture = refl
never-zero Unassigned = refl
never-zero NoCommand = refl
never-zero TooManyCommands = refl
never-zero Unknown = refl
never-zero Invalid = refl
never-zero NotAtPlace = refl
never-zero OtherLength = refl
never-zero NoEntry = refl
never-zero Unviewable = refl
never-zero Damaged = refl
