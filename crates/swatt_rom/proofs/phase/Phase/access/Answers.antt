use Rattle.std.proofs.Common.{◌∙◌, ap, sym}
use Rattle.swatt_rom.proofs.Accesses.{access_of, access_of-phase}
use Rattle.swatt_rom.proofs.phase.Phase.access.Goals as goal

pub returns-in-ReadsRequest-clause-access : goal.returns-in-ReadsRequest-clause-access
returns-in-ReadsRequest-clause-access g c = λ sp words stands.
    c.access.ensures.access ∙ sym (ap access_of c.in-ReadsRequest.is)
    ∙ access_of-phase g.D.Digest32.hash sp c.args.self.now words stands

pub returns-in-WritesHighWord-clause-access : goal.returns-in-WritesHighWord-clause-access
returns-in-WritesHighWord-clause-access g c = λ sp words stands.
    sym (ap access_of c.in-WritesHighWord.is)
    ∙ access_of-phase g.D.Digest32.hash sp c.args.self.now words stands

pub returns-in-WritesLowWord-clause-access : goal.returns-in-WritesLowWord-clause-access
returns-in-WritesLowWord-clause-access g c = λ sp words stands.
    sym (ap access_of c.in-WritesLowWord.is)
    ∙ access_of-phase g.D.Digest32.hash sp c.args.self.now words stands

pub returns-in-WritesDecision-clause-access : goal.returns-in-WritesDecision-clause-access
returns-in-WritesDecision-clause-access g c = λ sp words stands.
    sym (ap access_of c.in-WritesDecision.is)
    ∙ access_of-phase g.D.Digest32.hash sp c.args.self.now words stands

pub returns-in-WritesDerivedKey-clause-access : goal.returns-in-WritesDerivedKey-clause-access
returns-in-WritesDerivedKey-clause-access g c = λ sp words stands.
    c.access-in-WritesDerivedKey.ensures.access ∙ sym (ap access_of c.in-WritesDerivedKey.is)
    ∙ access_of-phase g.D.Digest32.hash sp c.args.self.now words stands

pub returns-in-ReadsRegion-clause-access : goal.returns-in-ReadsRegion-clause-access
returns-in-ReadsRegion-clause-access g c = λ sp words stands.
    c.access-in-ReadsRegion.ensures.access ∙ sym (ap access_of c.in-ReadsRegion.is)
    ∙ access_of-phase g.D.Digest32.hash sp c.args.self.now words stands

pub returns-in-WritesInnerDigest-clause-access : goal.returns-in-WritesInnerDigest-clause-access
returns-in-WritesInnerDigest-clause-access g c = λ sp words stands.
    c.access-in-WritesInnerDigest.ensures.access ∙ sym (ap access_of c.in-WritesInnerDigest.is)
    ∙ access_of-phase g.D.Digest32.hash sp c.args.self.now words stands

pub returns-in-WritesMac-clause-access : goal.returns-in-WritesMac-clause-access
returns-in-WritesMac-clause-access g c = λ sp words stands.
    c.access-in-WritesMac.ensures.access ∙ sym (ap access_of c.in-WritesMac.is)
    ∙ access_of-phase g.D.Digest32.hash sp c.args.self.now words stands
