use Rattle.std.proofs.Common.{◌∙◌, ◌-◌, sym, arith}
use Rattle.first_form_read.specs.Places.{listed_from}
use Rattle.first_form_read.proofs.Placed.{counted_more, skipped, begun, refused}
use Rattle.first_form_read.proofs.listing.Listing.decode.Goals as goal

pub loop-pc-preserved-then-operands-gt0 : goal.loop-pc-preserved-then-operands-gt0
loop-pc-preserved-then-operands-gt0 c = record {
  counted = counted_more c.loop-pc.places.items _ _ _ c.in_ok-push.ensures.items c.loop-pc.invariant.counted;
  listed =
      c.loop-pc.invariant.listed
      ∙ rw c.in_ok-push.ensures.items (skipped c.args.code.now c.loop-pc.pc c.loop-pc.operands (c.loop-pc.operands - 1) c.loop-pc.places.items c.loop-pc-test.true (omega arith));
}

pub returns-in_default : goal.returns-in_default
returns-in_default c =
    sym (c.loop-pc.invariant.listed ∙ refused c.args.code.now c.loop-pc.pc c.loop-pc.operands (listed_from 0 c.loop-pc.places.items) c.loop-pc-test.true c.if-operands-gt0.false (sym c.in_default.ensures))

pub loop-pc-preserved : goal.loop-pc-preserved
loop-pc-preserved c = record {
  counted = counted_more c.loop-pc.places.items _ _ _ c.in_ok-push-2.ensures.items c.loop-pc.invariant.counted;
  listed =
      c.loop-pc.invariant.listed
      ∙ rw c.in_ok-push-2.ensures.items
      (begun c.args.code.now c.loop-pc.pc c.loop-pc.operands (c.size-operands.result - 1) c.loop-pc.places.items c.in-Some.instr c.loop-pc-test.true c.if-operands-gt0.false c.loop-pc.invariant.counted (sym c.in-Some.ensures) (omega arith));
}
