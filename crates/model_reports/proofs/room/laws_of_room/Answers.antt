use Rattle.model_reports.specs.Lines.{lists-of-transactions}
use Rattle.model_reports.specs.RoomLaws.{places-are-found, room-is-found, transactions-find-room}
use Rattle.model_reports.proofs.room.laws_of_room.Goals as goal

pub returns : goal.returns
returns c = record { places = places-are-found; found = room-is-found; transactions = transactions-find-room; lists = lists-of-transactions }
