-- Examples A to O and those of the requests hold of the definitions, which antt computes. Assumes nothing.
use Rattle.std.specs.Prelude.{T}
use Rattle.rdp_words.specs.Words.{half_of, word_at, same_bytes, overwrite}
use Rattle.rdp_words.specs.Kinds.{kind_of, words_of}
use Rattle.rdp_command.specs.Layout.{layout}
use Rattle.rdp_command.specs.Commands.{command_of}
use Rattle.rdp_words.specs.Lengths.{whole_words}
use Rattle.rdp_command.specs.Decode.{decode_of}
use Rattle.rdp_hazards.specs.Hazards.{next_of, required_of}
use Rattle.rdp_check.specs.Commands.{commands_from, rest_from}
use Rattle.rdp_check.specs.Registers.{no_registers, registers_after}
use Rattle.rdp_check.specs.Check.{after_command, own_refusals, sync_refusals, judge, outcome_within}
use Rattle.rdp_check.specs.Cause.{awaited, latest, cause_of}
use Rattle.rdp_check.specs.Refusals.{command_grounds, grounds_of}
use Rattle.rdp_repair.specs.Plan.{sync_at, wait_of, with_option, applied}
use Rattle.rdp_repair.specs.Best.{cleared_by, total_with, choice_of, prefer, chosen, best, plan, planned, repaired_bytes}
use Rattle.rdp_repair.specs.Repair.{repair_of, out_after, work_after}
use Rattle.rdp_repair.specs.Afresh.{others, without}
use Rattle.rdp_pixels.specs.Overlay.{overlay}
use Rattle.rdp_texels.specs.Load.{load_needs}
use Rattle.rdp_pixels.specs.Range.{one_of}
use Rattle.rdp_fill.specs.Fill.{color_byte, bytes_per_pixel, pixel_address, some_byte}
use Rattle.rdp_pixels.specs.Kept.{line_kept, kept}
use Rattle.rdp_draw.specs.Draw.{act_of, acts_from, act_refusals, act_grounds, draw_answer, acted_all, drawn}
use Rattle.rdp_examples.specs.Examples.{examples, all_right}

pub examples-right : T (all_right examples)
unfolding examples half_of word_at same_bytes overwrite kind_of words_of layout command_of whole_words decode_of next_of required_of commands_from rest_from no_registers registers_after after_command own_refusals sync_refusals judge outcome_within awaited latest cause_of sync_at wait_of cleared_by with_option total_with choice_of prefer chosen best plan applied planned repaired_bytes command_grounds grounds_of repair_of out_after work_after overlay color_byte bytes_per_pixel pixel_address line_kept kept one_of some_byte act_of acts_from act_refusals act_grounds draw_answer acted_all drawn load_needs others without
examples-right = tt
