-- What a desk serves of a source.
use Rattle.std.{proofs.{Common.{◌≡◌, ℕ, List, [], Some, Ok, Err, refl, inl, inr}, lemmas.List.append-nil}, specs.Prelude.{OnOk, Result}}
use Rattle.outside_edge.specs.declared.{sink.Sink.Ghosts as SinkGhosts, source.Source.Ghosts as SourceGhosts}
use Rattle.source_server.{specs.{declared.{halt.Halt.Halt, lines.Lines.Lines, served.Served.{Served, TheVariants.Own}}, Lines.{Settles, promise_of}, Responder.Moment, Serving.Serves}, proofs.ServedPieces.{none_served, serves_as}}
use Rattle.source_server.specs.declared.halt.Halt.TheVariants as halt
use Rattle.desk_memory.specs.declared.memory.Memory.{Ghosts as MemoryGhosts}
use Rattle.verifier_desk.{specs.{declared.{answer_fault.AnswerFault.{AnswerFault, TheVariants.Memory}, desk.Desk.Desk, desk_responder.DeskResponder.DeskResponder}, Desk.{DeskStandsFor, no_lines_of}, Replies.{DeskFields, lines_said}, Serving.{HasAnswered, Keeps, Outside, desk_promise}, Telling.{PutsHeld, lines_promise, outside_at}, Withheld.nothing_withheld}, proofs.{HeldReplies.{answered_of_told, stops_of_fails, told_anew}, MoreLines.grows_self}}

module _ {M W : Type 0} (m : MemoryGhosts M) (w : SinkGhosts W) (first : Outside M W)
    (fields : DeskFields) where
  -- before the first byte no reply is due
  answered_none : Keeps m first.memory fields.entries
      → HasAnswered m w first first fields []
  answered_none keeps = record { put = λ before holds. rw (append-nil before) holds; keeps = keeps }

  -- there was no memory for a line or for replies
  pub lacks_served : {R : Type 0} (r : SourceGhosts R) (source : R)
      → Keeps m first.memory fields.entries
      → Serves r (desk_promise m w fields first) source source first (Own Memory)
  lacks_served r source keeps =
      none_served r (desk_promise m w fields first) source first (halt.Own Memory)
      (inr (refl, refl, answered_none keeps))

  -- what was held back of the replies to lines was put
  pub lines_settled : (desk : Desk) (now : Moment (DeskResponder M) W) (lines : List (List ℕ))
      (result : Result Unit (Halt AnswerFault))
      → now.responder.desk ≡ desk
      → OnOk result (now.responder.withheld ≡ nothing_withheld)
      → DeskStandsFor desk fields (lines_said fields lines)
      → PutsHeld m w first (outside_at now) fields lines result
      → Settles (lines_promise m w (record { fields = fields; first = first })) now lines result
  lines_settled desk now lines (Ok unit) same empty stands so =
      record {
        goes_on = (
          record { told = rw empty so.all; stands = rw same stands },
          answered_of_told m w first fields (outside_at now) lines so.all,
        );
        stops = tt;
      }
  lines_settled desk now lines (Err why) same empty stands so =
      record {
        goes_on = tt;
        stops = stops_of_fails m w first fields (outside_at now) lines why so.fails;
      }

  pub begins_with : (desk : Desk) (now : Moment (Lines (DeskResponder M)) W)
      (responder : DeskResponder M)
      → now.responder.held ≡ Some [] → now.responder.responder ≡ responder
      → responder.desk ≡ desk → responder.withheld ≡ nothing_withheld
      → responder.memory ≡ first.memory → now.edge ≡ first.sink
      → DeskStandsFor desk fields no_lines_of
      → Keeps m first.memory fields.entries
      → (promise_of (lines_promise m w (record { fields = fields; first = first }))).answered now []
  begins_with desk now responder empty is desk_is withheld_is memory_is edge_is stands keeps =
      rw (empty, is, desk_is, withheld_is, memory_is, edge_is) (
        record {
          told = record {
            told = told_anew m w first fields first [] (grows_self m w first) (answered_none keeps);
            stands = stands;
          };
          holds = refl;
        },
        answered_none keeps,
      )

  pub desk_served : {R : Type 0} (r : SourceGhosts R) (source source_new : R)
      (now : Moment (Lines (DeskResponder M)) W) (served : Served AnswerFault)
      → Serves r (promise_of (lines_promise m w (record { fields = fields; first = first })))
      source source_new now served
      → Serves r (desk_promise m w fields first) source source_new
      (record { memory = now.responder.responder.memory; sink = now.edge }) served
  desk_served r source source_new now served so =
      serves_as r (promise_of (lines_promise m w (record { fields = fields; first = first })))
      (desk_promise m w fields first) source source_new now
      (record { memory = now.responder.responder.memory; sink = now.edge })
      (λ bytes so. so.1) (λ bytes so. so) (λ before last why so. inl so) served so
