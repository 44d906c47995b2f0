pub mod EventNotes
