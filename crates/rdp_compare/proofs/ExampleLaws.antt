-- The examples hold of the definitions, which antt computes. Assumes nothing.
use Rattle.std.proofs.Common.{refl}
use Rattle.rdp_words.specs.Words.{half_of, word_at, overwrite, same_bytes}
use Rattle.rdp_words.specs.Kinds.{kind_of, words_of}
use Rattle.rdp_words.specs.Lengths.{whole_words, suffix_start, suffix_of}
use Rattle.rdp_command.specs.Layout.{layout}
use Rattle.rdp_command.specs.Fields.{twos_complement}
use Rattle.rdp_command.specs.Commands.{command_of}
use Rattle.rdp_command.specs.Decode.{decode_of}
use Rattle.rdp_check.specs.Commands.{commands_from, rest_from}
use Rattle.rdp_check.specs.Refusals.{command_grounds, grounds_of}
use Rattle.rdp_compare.specs.Differing.{unlike, bits_from, differing_fields}
use Rattle.rdp_compare.specs.Entries.{pair_entries_from, compare_answer, entries_after}
use Rattle.rdp_compare.specs.Part.{longer_from, rest_start}
use Rattle.rdp_compare.specs.Examples.{Right}

pub examples-right : Right
unfolding half_of word_at overwrite kind_of words_of whole_words suffix_start suffix_of layout twos_complement command_of decode_of commands_from rest_from command_grounds grounds_of unlike same_bytes bits_from differing_fields pair_entries_from compare_answer entries_after longer_from rest_start
examples-right =
    record {
      empty = refl;
      cycle-type = refl;
      alpha-compare = refl;
      unused = refl;
      number = refl;
      suffix = refl;
      color-image = refl;
      texture-image = refl;
      no_room = refl;
      second-longer = refl;
      first-longer = refl;
      first-refused = refl;
      second-refused = refl;
    }
