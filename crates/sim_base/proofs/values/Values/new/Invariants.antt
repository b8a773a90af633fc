use Rattle.std.proofs.Common.{◌≡◌, ℕ, ◌<◌, length, get_or, map, take}
use Rattle.sim_base.specs.Values.{first_word}
use Rattle.sim_base.specs.declared.values.Span.{Span}
use Rattle.sim_base.proofs.values.Values.new.Given as goal

abbrev pub invariant-loop-width : goal.invariant-loop-width
invariant-loop-width l = record {
  shape : length l.spans.items ≡ l.width-index;
  written : map (λ (s : Span). s.width) l.spans.items ≡ take l.width-index l.widths;
  placed : (n : ℕ) → n < l.width-index → get_or (map (λ (s : Span). s.place) l.spans.items) n 0 ≡ first_word l.widths n;
  room : l.place ≡ first_word l.widths l.width-index;
}
