-- Document 02, #113: "a list that passes the check and its #109 form, where given, drawn on equal memory, start address and texture memory, yield the same
-- picture or refusal number". `proofs/PictureLaws` shows it.
use Rattle.std.specs.Prelude.{ℕ, List, ◌≡◌, length}
use Rattle.rdp_draw.specs.Draw.{Memories, draw_answer, drawn}
use Rattle.rdp_view.specs.View.{Framebuffer, view_out}

-- two lists are drawn alike, whatever memory, start address and texture memory are: the same refusal number, or 0; the same bytes in both memories; and so
-- the same picture of every image, in every output
pub record SamePicture (s t : List ℕ) : Type 0 where
  pub number :
      (start : ℕ) (m : Memories) → (draw_answer s start (length m.memory) (length m.texture)).number ≡ (draw_answer t start (length m.memory) (length m.texture)).number
  pub memories : (start : ℕ) (m : Memories) → drawn s start m ≡ drawn t start m
  pub picture : (start : ℕ) (m : Memories) (i : Framebuffer) (out : List ℕ) → view_out (drawn s start m).memory start i out ≡ view_out (drawn t start m).memory start i out
