use Rattle.std.proofs.Common.{ap}
use Rattle.solo_session.specs.Session.{conversation}
use Rattle.solo_session.proofs.Rounds.{packet_served}
use Rattle.solo_session.proofs.session.Session.serve_packet.Goals as goal

pub returns-clause-served : goal.returns-clause-served
returns-clause-served g c = λ packets sent has.
    packet_served packets (conversation g.F.Followed.run c.args.self.now) (conversation g.F.Followed.run c.take_packet.new.self) (conversation g.F.Followed.run c.record.new.self) (conversation g.F.Followed.run c.stop.new.self) sent c.args.text.now.items c.take_packet.new.text.items c.record.new.text.items c.stop.new.text.items c.args.packet.now has
    (ap (conversation g.F.Followed.run) c.in_ok-take_packet.ensures.session) c.in_ok-take_packet.ensures.text (ap (conversation g.F.Followed.run) c.in_ok-record.ensures.session) c.in_ok-record.ensures.serving c.in_ok-record.ensures.text (ap (conversation g.F.Followed.run) c.in_ok-stop.ensures.session) c.in_ok-stop.ensures.serving c.in_ok-stop.ensures.text
