use Rattle.std.proofs.Common.{◌≡◌, ◌<◌, ◌^◌, length, arith, rules}
use Rattle.laws.specs.Expr.{machine}
use Rattle.laws.specs.Bytes.{bytes}
use Rattle.writing.proofs.Laws.{put_added}
use Rattle.grid_text.specs.Text.{header_text}
use Rattle.grid_text.proofs.Added.{line_of}
use Rattle.grid_text.proofs.parts.put_header.Goals as goal

pub returns : goal.returns
unfolding header_text
returns c =
    let h = c.args.header in
    let lent : length c.args.room.now < 2 ^ 63 = omega arith in
    let south : machine h.south.0 ≡ h.south.0 = search rules in
    let west : machine h.west.0 ≡ h.west.0 = search rules in
    let dlat : machine h.dlat ≡ h.dlat = search rules in
    let dlon : machine h.dlon ≡ h.dlon = search rules in
    let rows : machine h.rows ≡ h.rows = search rules in
    let cols : machine h.cols ≡ h.cols = search rules in
    let p = put_added c.put_text-at.ensures (line_of (bytes "south=") south c.add_line-at.ensures) lent in
    let p = put_added p (line_of (bytes "west=") west c.add_line-at-2.ensures) lent in
    let p = put_added p (line_of (bytes "dlat=") dlat c.add_line-at-3.ensures) lent in
    let p = put_added p (line_of (bytes "dlon=") dlon c.add_line-at-4.ensures) lent in
    let p = put_added p (line_of (bytes "rows=") rows c.add_line-at-5.ensures) lent in
    put_added p (line_of (bytes "cols=") cols c.add_line.ensures) lent
