-- `sheet::write_move` meets its contract: what stands before the name, the name, and what stands behind it.
use native.Mathlib.Omega.{arith}
use lib.ListN.{take, drop}
use Rattle.model.specs.Bytes.{bytes}
use Rattle.model.specs.Sheet.{move_bytes}
use Rattle.sheet.specs.Written.{places_bytes}
use Rattle.sheet.proofs.Within.{Room, room_first, room_second, room_third, all_three, length_cut}
use Rattle.sheet.proofs.write_move.Goals.{Start}
use Rattle.sheet.proofs.write_move.Goals as goal

-- its three parts have room
room : (c : Start) → let a = c.args in
    let name = take a.«len» (drop a.start a.text.now) in
    Room a.at a.size a.out.now (bytes " (move ") name (places_bytes a.pre a.post)
unfolding move_bytes places_bytes
room c = record { enough = c.requires.post_bound; fits = c.requires.len_bound.2 }

pub write_bytes-name-requires : goal.write_bytes-name-requires
write_bytes-name-requires c = room_first (room (goal.at.write_bytes-name-requires c).Start)

pub write_name-places-requires : goal.write_name-places-requires
write_name-places-requires c =
    let r = room_second (room (goal.at.write_name-places-requires c).Start) c.write_bytes-name.ensures in
    let a = c.args in
    (c.requires.len_bound.0, c.requires.len_bound.1, omega (arith, r.0, length_cut a.text.now a.start a.«len» c.requires.len_bound.1), r.1)

pub write_places-requires : goal.write_places-requires
write_places-requires c =
    room_third (room (goal.at.write_places-requires c).Start) c.write_bytes-name.ensures c.write_name-places.ensures

pub returns : goal.returns
unfolding move_bytes places_bytes
returns c =
    all_three (room (goal.at.returns c).Start) c.write_bytes-name.ensures c.write_name-places.ensures c.write_places.ensures
