-- `read_lines` meets its contract: what is left to read, with what was read, is the whole reading. Assumes nothing.
use mathlib.Core.Path.{◌≡◌, ap, ◌∙◌}
use Prim.Native.Nat.{ℕ}
use mathlib.Core.List.{List}
use native.Mathlib.Omega.{arith}
use Rattle.text.specs.Netlist.{Netlist, added, reading}
use Rattle.text.specs.declared.Line.{Line}
use Rattle.textlaws.proofs.Lines.{text_fits}
use Rattle.devices.specs.Tables.{SoFar, so_far}
use Rattle.devices.proofs.Midway.{midway_stops, midway_goes, midway_ends}
use Rattle.devices.proofs.Netlist.read_lines.Goals as goal

-- what a line added, and what was read, are of the text
list_is : (r : SoFar) (t u : List ℕ) (line : Line) (m : Netlist) → r ≡ so_far t (added t line m) → t ≡ u → r.list ≡ added u line m
list_is r t u line m e h = ap (λ (x : SoFar). x.list) e ∙ ap (λ (x : List ℕ). added x line m) h

pub add_line-requires-clause-fits : goal.add_line-requires-clause-fits
add_line-requires-clause-fits c =
    rw (c.loop-from.invariant.of_text, c.line_at-line.ensures) (text_fits _ _ (omega (arith, c.loop-from-test.true)))

pub loop-from-preserved : goal.loop-from-preserved
loop-from-preserved c =
    let e = c.line_end-from.ensures in
    let v = c.loop-from.invariant in
    record {
      of_text = ap (λ (x : SoFar). x.text) c.add_line.ensures ∙ v.of_text;
      text_is = v.text_is;
      midway = midway_goes _ _ _ _ _ _ v.midway c.loop-from-test.true _ c.line_at-line.ensures _ (list_is _ _ _ _ _ c.add_line.ensures v.of_text) _ c.offends.ensures c.if-offends.false _ e.found e.within.0;
    }

pub returns-then-offends-clause-read : goal.returns-then-offends-clause-read
returns-then-offends-clause-read c =
    let v = c.loop-from.invariant in
    midway_stops _ _ _ _ _ _ v.midway c.loop-from-test.true _ c.line_at-line.ensures _ (list_is _ _ _ _ _ c.add_line.ensures v.of_text) _ c.offends.ensures c.if-offends.true
    ∙ ap (λ (x : List ℕ). reading x c.args.node_room c.args.transistor_room) v.text_is

pub returns-clause-read : goal.returns-clause-read
returns-clause-read c =
    let v = c.loop-from.invariant in
    midway_ends _ _ _ _ _ _ v.midway c.loop-from-test.false ∙ ap (λ (x : List ℕ). reading x c.args.node_room c.args.transistor_room) v.text_is
