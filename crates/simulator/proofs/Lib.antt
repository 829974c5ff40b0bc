pub mod Wells
pub mod Passing
pub mod UnderWay
pub mod Playing
pub mod Looking
pub mod Twos
