-- The syncs whose word is a command number in bits 61:56 with all other bits 0, and those with any other bits. Assumes nothing.
use Prim.Native.Nat.{ℕ}
use mathlib.Core.List.{List}
use mathlib.Core.Logic.{◌⊎◌, inl, inr}
use mathlib.Core.Path.{◌≡◌, refl, ap, ◌∙◌}
use lib.Dec.{eqb}
use Rattle.rdp_words.specs.Words.{half_of, word_at, bare_word}
use Rattle.rdp_words.specs.Kinds.{Kind, sync_load, sync_tile, sync_pipe, kind_of, words_of}
use Rattle.rdp_command.specs.Layout.{layout}
use Rattle.rdp_command.specs.Commands.{command_of}
use Rattle.rdp_words.specs.Lengths.{first_number, whole_words}
use Rattle.rdp_words.proofs.Tests.{by-test}
use Rattle.rdp_command.specs.Decode.{own_words, command_in, decode_of}
use Rattle.rdp_command.specs.declared.Command.{Command}
use Rattle.rdp_command.specs.declared.Command.TheVariants.{SyncLoad, SyncTile, SyncPipe}
use Rattle.rdp_command.specs.Decode.{Whole, Refused}

-- a sync by its number, kind and command: its word is whole, of one word, with the number first, and decodes to the command
pub record SyncWord (n : ℕ) (k : Kind) (c : Command) : Type 0 where
  pub number : first_number (bare_word n) ≡ n
  pub kind : kind_of n ≡ k
  pub words : words_of n ≡ 1
  pub whole : whole_words (bare_word n) ≡ 1
  pub decoded : decode_of (bare_word n) ≡ Whole c
  -- whatever other bits a command of this number has
  pub any-bits : (bs : List ℕ) → first_number bs ≡ n → (decode_of bs ≡ Whole c) ⊎ (decode_of bs ≡ Refused (record { number = 3; place = 0 }))

decodes-as :
    (n : ℕ) (c : Command) → ((ws : List ℕ) → command_in n ws ≡ c) → (bs : List ℕ) → first_number bs ≡ n →
    (decode_of bs ≡ Whole c) ⊎ (decode_of bs ≡ Refused (record { number = 3; place = 0 }))
unfolding decode_of
decodes-as n c h bs e =
    let ws : List ℕ = own_words bs (whole_words bs) in
    by-test (eqb (whole_words bs) 0) (λ t. inr (rw t))
    (λ f. inl (rw f (ap Whole (ap (λ (k : ℕ). command_in k ws) e ∙ h ws))))

pub sync-words : SyncWord 0x26 sync_load SyncLoad × (SyncWord 0x28 sync_tile SyncTile × SyncWord 0x27 sync_pipe SyncPipe)
unfolding half_of word_at kind_of words_of layout command_of whole_words decode_of
sync-words = (
  record { number = refl; kind = refl; words = refl; whole = refl; decoded = refl; any-bits = decodes-as 0x26 SyncLoad (λ ws. refl) },
  (
    record { number = refl; kind = refl; words = refl; whole = refl; decoded = refl; any-bits = decodes-as 0x28 SyncTile (λ ws. refl) },
    record { number = refl; kind = refl; words = refl; whole = refl; decoded = refl; any-bits = decodes-as 0x27 SyncPipe (λ ws. refl) },
  ),
)
