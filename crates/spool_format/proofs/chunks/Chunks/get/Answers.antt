use Rattle.std.proofs.Common.{◌≡◌, ◌<◌, ◌≤◌, [], get_or, length, map, ◌-◌, ◌*◌, ◌/◌, ◌%◌, arith, ap, ◌∙◌, sym}
use Rattle.std.specs.Arc.{arc_value}
use Rattle.std.specs.List.{flat_map}
use Rattle.std.proofs.lemmas.List.{get_or-map, length-map, length-append}
use Rattle.spool_format.proofs.Blocks.{in_block, behind_blocks}
use Rattle.spool_format.proofs.chunks.Chunks.get.Goals as goal

pub get-requires : goal.get-requires
get-requires c =
    let within : c.args.n / 256 < length c.self.inside.blocks.items = omega arith in
    let block : c.deref-block.result.now ≡ get_or (map arc_value c.self.inside.blocks.items) (c.args.n / 256) [] =
    c.deref-block.ensures ∙ ap arc_value c.index.ensures ∙ sym (get_or-map arc_value c.self.inside.blocks.items (c.args.n / 256) c.index.result.now [] within) in
    let long = c.self.invariant (c.args.n / 256) [] (omega (arith, length-map c.self.inside.blocks.items arc_value)) in
    omega (arith, ap length block)

pub returns-then-block-len-clause-some : goal.returns-then-block-len-clause-some
returns-then-block-len-clause-some c =
    let blocks = map arc_value c.self.inside.blocks.items in
    let recent = map arc_value c.self.inside.recent.items in
    let within : c.args.n / 256 < length c.self.inside.blocks.items = omega arith in
    let block : c.deref-block.result.now ≡ get_or (map arc_value c.self.inside.blocks.items) (c.args.n / 256) [] =
    c.deref-block.ensures ∙ ap arc_value c.index.ensures ∙ sym (get_or-map arc_value c.self.inside.blocks.items (c.args.n / 256) c.index.result.now [] within) in
    let found = in_block blocks recent c.args.n c.self.invariant (omega (arith, length-map c.self.inside.blocks.items arc_value)) in (
      omega (arith, found.1, ap length c.self.view_is, length-append (flat_map (λ b. b) blocks) recent),
      c.get.ensures ∙ ap (λ b. get_or b (c.args.n % 256) []) block ∙ sym found.0 ∙ ap (λ xs. get_or xs c.args.n []) c.self.view_is,
    )

pub returns-then-at-len-clause-some : goal.returns-then-at-len-clause-some
returns-then-at-len-clause-some c =
    let blocks = map arc_value c.self.inside.blocks.items in
    let recent = map arc_value c.self.inside.recent.items in
    let many = length-map c.self.inside.blocks.items arc_value in
    let behind : length blocks ≤ c.args.n / 256 = omega (arith, many) in
    let found = behind_blocks blocks recent c.args.n c.self.invariant behind in
    let at = c.args.n - length blocks * 256 in
    let within : at < length c.self.inside.recent.items = omega (arith, many) in
    let is : c.args.n - c.len-2.result * 256 ≡ c.args.n - length blocks * 256 = omega (arith, many) in
    let chunk : c.deref-chunk.result.now ≡ get_or recent at [] =
    c.deref-chunk.ensures ∙ ap arc_value (c.index-then-at-len.ensures ∙ ap (λ k. get_or c.self.inside.recent.items k c.index-then-at-len.result.now) is)
    ∙ sym (get_or-map arc_value c.self.inside.recent.items at c.index-then-at-len.result.now [] within) in (
      omega (arith, found.1, ap length c.self.view_is, many, length-map c.self.inside.recent.items arc_value),
      c.as_slice.ensures ∙ chunk ∙ sym found.0 ∙ ap (λ xs. get_or xs c.args.n []) c.self.view_is,
    )

pub returns-else-at-len-clause-none : goal.returns-else-at-len-clause-none
returns-else-at-len-clause-none c =
    let blocks = map arc_value c.self.inside.blocks.items in
    let recent = map arc_value c.self.inside.recent.items in
    let many = length-map c.self.inside.blocks.items arc_value in
    let behind : length blocks ≤ c.args.n / 256 = omega (arith, many) in
    let found = behind_blocks blocks recent c.args.n c.self.invariant behind in
    omega (arith, found.1, ap length c.self.view_is, many, length-map c.self.inside.recent.items arc_value)
