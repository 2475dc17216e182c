-- How the replay finds a slot, and what its loop promises. No public contract cites this.
use Rattle.std.specs.Prelude.{ℕ, ◌+◌, ◌*◌, ◌/◌, ◌%◌, ◌^◌, cond, ◌||◌, Option, Some, None, Result, Ok, Err, List, [], ◌∷◌, eqb, ltb}
use Rattle.rdp_words.specs.Words.{word_at}
use Rattle.rdp_words.specs.Grounds.{Answer, answered, number_of}
use Rattle.rdp_words.specs.declared.grounds.Refusal.{Refusal}
use Rattle.rdp_check.specs.declared.Accepted.{Accepted}
use Rattle.rdp_check.specs.declared.Refused.{Refused}
use Rattle.rdp_words.specs.Kinds.{words_of}
use Rattle.rdp_words.specs.Lengths.{first_number}
use Rattle.rdp_command.specs.Decode.{decode_of}
use Rattle.rdp_command.specs.declared.RegisterWords.{RegisterWords}
use Rattle.rdp_check.specs.Registers.{after_decoded}
use Rattle.rdp_state.specs.RegisterWords.{words_after, word}
use Rattle.rdp_state.specs.Resume.{waited_after}
use Rattle.rdp_check.specs.declared.Registers.{Registers}

-- the slots of eight command numbers, a byte for each: the slot of tile 0, and 32 more where the tile counts
unfoldable pub slot_row : ℕ → ℕ
slot_row eight =
    cond (eqb eight 5) 0x0504_0302_0100_1F1F
    (cond (eqb eight 6) 0x061F_2F37_3737_1F37
    (cond (eqb eight 7) 0x0E0D_0C0B_0A09_0807 0x1F1F_1F1F_1F1F_1F1F))

abbrev pub slot_entry : ℕ → ℕ
slot_entry n = slot_row (n / 8) / 2 ^ (8 * (n % 8)) % 256

abbrev pub slot_in : ℕ → ℕ → ℕ
slot_in entry t = entry % 32 + entry / 32 * t

-- the slot of a register, where it is one
abbrev pub set_slot : ℕ → Option ℕ
set_slot slot = cond (eqb slot 31) None (Some slot)

-- the commands that set a register
abbrev pub setters : List ℕ
setters = 0x2A ∷ 0x2B ∷ 0x2C ∷ 0x2D ∷ 0x2E ∷ 0x2F ∷ 0x30 ∷ 0x32 ∷ 0x33 ∷ 0x34 ∷ 0x35 ∷ 0x37 ∷ 0x38 ∷ 0x39 ∷ 0x3A ∷ 0x3B ∷ 0x3C ∷ 0x3D ∷ 0x3E ∷ 0x3F ∷ []

-- what the commands, from a place on, that begin before a place leave, by what each leaves
unfoldable pub up_to : {A : Type 0} → (A → List ℕ → A) → ℕ → ℕ → A → List (List ℕ) → A
up_to after end at a [] = a
up_to after end at a (c ∷ cs) = cond (ltb at end) (up_to after end (at + words_of (first_number c)) (after a c) cs) a

abbrev pub storing : List ℕ → List ℕ → List ℕ
storing words c = words_after words (first_number c) (word_at c 0)

abbrev pub applying : Registers → List ℕ → Registers
applying r c = after_decoded r (decode_of c)

abbrev pub adding : ℕ → List ℕ → ℕ
adding waited c = waited_after waited (first_number c)

-- the words that last set the registers, the registers, and the cycles waited
abbrev pub words_up_to : ℕ → ℕ → List ℕ → List (List ℕ) → List ℕ
words_up_to = up_to storing

abbrev pub registers_up_to : ℕ → ℕ → Registers → List (List ℕ) → Registers
registers_up_to = up_to applying

abbrev pub waited_up_to : ℕ → ℕ → ℕ → List (List ℕ) → ℕ
waited_up_to = up_to adding

-- where the commands end whose registers an outcome has: at its place, but for 1 and 2 before the first
abbrev pub end_of : ℕ → ℕ → ℕ
end_of number place = cond (eqb number 1 || eqb number 2) 0 place

-- what the check tells, but for its cause: its answer and the hazards there
abbrev pub told_in : Result ℕ Refusal × ℕ → Answer × ℕ
told_in told = (answered told.0, told.1)

abbrev pub told_by : Result Accepted Refused → Answer × ℕ
told_by (Ok a) = (record { number = 0; place = a.words }, a.hazards)
told_by (Err r) = (record { number = number_of r.ground; place = r.place }, r.hazards)

-- the words of the registers but the tiles, as layer 1 reads them
abbrev pub register_words : List ℕ → RegisterWords
register_words words =
    record {
      key_gb = word words 0;
      key_r = word words 1;
      convert = word words 2;
      scissor = word words 3;
      primitive_depth = word words 4;
      other_modes = word words 5;
      fill_color = word words 6;
      fog_color = word words 7;
      blend_color = word words 8;
      primitive_color = word words 9;
      environment_color = word words 10;
      combine_mode = word words 11;
      texture_image = word words 12;
      depth_image = word words 13;
      color_image = word words 14;
    }
