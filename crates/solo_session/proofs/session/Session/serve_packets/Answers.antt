use Rattle.std.proofs.Common.{◌≡◌, refl, sym, ap, subst, ◌∙◌}
use Rattle.frame_zero.specs.Packets.{Leaves, packets}
use Rattle.frame_zero.specs.declared.Frame.TheVariants as frame
use Rattle.solo_session.specs.Session.{IsServedSoFar, conversation}
use Rattle.frame_zero.proofs.Streams.{ends_open, ends_too_long}
use Rattle.solo_session.proofs.Rounds.{none_taken, one_taken}
use Rattle.solo_session.proofs.session.Session.serve_packets.Goals as goal

pub loop-packet-init : goal.loop-packet-init
loop-packet-init g c = record { serving = c.requires.serving; samples = refl; so_far = none_taken c.args.framer.now (conversation g.F.Followed.run c.args.self.now) c.args.text.now.items }

pub loop-packet-preserved : goal.loop-packet-preserved
loop-packet-preserved g c =
    let left : Leaves (frame.Whole c.in-Whole.packet) c.loop-packet.framer c.take.follows.lender-at-none = subst (λ r. Leaves r c.loop-packet.framer c.take.follows.lender-at-none) c.in-Whole.is c.take.follows.holds-at-none in
    record {
      serving = c.in_ok-serve_packet-in-Whole.ensures.serving;
      samples = c.in_ok-serve_packet-in-Whole.ensures.run ∙ c.loop-packet.invariant.samples;
      so_far = one_taken c.args.framer.now c.loop-packet.framer c.take.follows.lender-at-none c.in-Whole.packet.now (conversation g.F.Followed.run c.args.self.now) (conversation g.F.Followed.run c.loop-packet.self) (conversation g.F.Followed.run c.serve_packet.new.self) c.args.text.now.items c.loop-packet.text.items c.serve_packet.new.text.items
          c.loop-packet.invariant.so_far left.0 left.1 (ap g.F.Followed.run c.in_ok-serve_packet-in-Whole.ensures.run) c.in_ok-serve_packet-in-Whole.ensures.served;
    }

pub returns-in-TooLong : goal.returns-in-TooLong
returns-in-TooLong g c =
    let left : c.take.follows.lender-at-none ≡ c.loop-packet.framer = subst (λ r. Leaves r c.loop-packet.framer c.take.follows.lender-at-none) c.in-TooLong.is c.take.follows.holds-at-none in
    record {
      samples = c.loop-packet.invariant.samples;
      served = record {
        so_far = subst (λ z. IsServedSoFar c.args.framer.now z (conversation g.F.Followed.run c.args.self.now) (conversation g.F.Followed.run c.loop-packet.self) c.args.text.now.items c.loop-packet.text.items) (sym left) c.loop-packet.invariant.so_far;
        serving = c.loop-packet.invariant.serving;
        rest = ap packets left ∙ ends_too_long c.loop-packet.framer (sym c.in-TooLong.ensures.first);
      };
    }

pub returns-in-NotYet : goal.returns-in-NotYet
returns-in-NotYet g c =
    let left : c.take.follows.lender-at-none ≡ c.loop-packet.framer = subst (λ r. Leaves r c.loop-packet.framer c.take.follows.lender-at-none) c.in-NotYet.is c.take.follows.holds-at-none in
    record {
      samples = c.loop-packet.invariant.samples;
      served = record {
        so_far = subst (λ z. IsServedSoFar c.args.framer.now z (conversation g.F.Followed.run c.args.self.now) (conversation g.F.Followed.run c.loop-packet.self) c.args.text.now.items c.loop-packet.text.items) (sym left) c.loop-packet.invariant.so_far;
        serving = c.loop-packet.invariant.serving;
        rest = ap packets left ∙ ends_open c.loop-packet.framer (sym c.in-NotYet.ensures.first);
      };
    }
