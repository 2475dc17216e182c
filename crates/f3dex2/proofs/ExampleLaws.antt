-- The worked examples hold of the definition, which antt computes. Assumes nothing.
use Rattle.std.proofs.Common.{◌≡◌, refl}
use Rattle.rdp_words.specs.Words.{half_of, word_at}
use Rattle.f3dex2.specs.Commands.{role_of, modified, setting_after}
use Rattle.f3dex2.specs.Walk.{walk}
use Rattle.f3dex2.specs.Examples.{walk_examples, results, expected}

pub examples-hold : results walk_examples ≡ expected walk_examples
unfolding walk_examples half_of word_at role_of modified setting_after walk
examples-hold = refl
