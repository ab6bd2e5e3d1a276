use Rattle.std.proofs.Common.{ap, ◌∙◌, arith, eq-eqb, ne_eqb, le-ltb, to_z-of_z}
use Rattle.grid_reader.specs.Scan.{cols_at, lat_at, lon_at, with_header, filled, header_end, node_end, count_end, closed}
use Rattle.grid_reader.proofs.scanner.Scan.close.Goals as goal

pub returns-in-61 : goal.returns-in-61
unfolding closed
returns-in-61 c =
    let s = c.args.self in
    rw (le-ltb s.at cols_at c.if-at-lt-COLS.false, eq-eqb s.at cols_at c.in-61.is)
    (c.end_header.ensures ∙ ap (header_end c.args.room) (c.fill-in-61.ensures ∙ (λ i. with_header s (filled (c.in-61.is i) (to_z-of_z c.ranges.x i) s.header))))

pub returns-in-70 : goal.returns-in-70
unfolding closed
returns-in-70 c =
    let s = c.args.self in
    rw (le-ltb s.at cols_at c.if-at-lt-COLS.false, ne_eqb s.at cols_at (omega arith), ne_eqb s.at lat_at (omega arith), eq-eqb s.at lon_at c.in-70.is)
    (c.end_node.ensures ∙ ap (node_end s) (to_z-of_z c.ranges.x))

pub returns-in_default-2 : goal.returns-in_default-2
unfolding closed
returns-in_default-2 c =
    let s = c.args.self in
    rw (le-ltb s.at cols_at c.if-at-lt-COLS.false, ne_eqb s.at cols_at (omega arith), ne_eqb s.at lat_at (omega arith), ne_eqb s.at lon_at (omega arith))
    (c.end_count.ensures ∙ ap (count_end s) (to_z-of_z c.ranges.x))
