-- The bit lines of the layout can be read, by one test that antt computes over the 64 numbers. Assumes nothing.
use Rattle.std.proofs.Common.{◌≡◌, ℕ, ◌<◌, Bool, ◌&&◌, ltb, leb, List, [], ◌∷◌, map, sym, subst, T, leb→le, ltb→lt}
use Rattle.std.specs.List.{All, AllByRecursion, list_all}
use Rattle.std.proofs.lemmas.List.Elements.{All-from_recursion}
use Rattle.rdp_command.specs.Layout.{Line, width, layout}
use Rattle.rdp_encode.specs.Table.{line_of, Readable}
use Rattle.rdp_encode.specs.declared.table.BitLine.{BitLine}
use Rattle.rdp_words.proofs.Tests.{below, both}

abbrev readable : Line → Bool
readable l = (leb l.low l.high && ltb l.high 64) && leb (width l) 56

all-readable : (ls : List Line) → T (list_all readable ls) → AllByRecursion Readable ls
all-readable [] t = tt
all-readable (l ∷ ls) t =
    let f = both (readable l) (list_all readable ls) t in
    let g = both (leb l.low l.high && ltb l.high 64) (leb (width l) 56) f.0 in
    let h = both (leb l.low l.high) (ltb l.high 64) g.0 in
    (record { ordered = leb→le _ _ h.0; inside = ltb→lt _ _ h.1; narrow = leb→le _ _ g.1 }, all-readable ls f.1)

pub layout-readable : (n : ℕ) → n < 64 → AllByRecursion Readable (layout n)
unfolding layout
layout-readable n h = all-readable (layout n) (below 64 (λ k. list_all readable (layout k)) tt n h)

-- those that the code holds of a number
held : (ls : List BitLine) → AllByRecursion Readable (map line_of ls) → AllByRecursion (λ l. Readable (line_of l)) ls
held [] r = tt
held (l ∷ ls) r = (r.0, held ls r.1)

pub lines-readable : (ls : List BitLine) (n : ℕ) → n < 64 → map line_of ls ≡ layout n → All (λ l. Readable (line_of l)) ls
lines-readable ls n h e = All-from_recursion _ ls (held ls (subst (AllByRecursion Readable) (sym e) (layout-readable n h)))
