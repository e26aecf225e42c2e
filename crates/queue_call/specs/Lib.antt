pub mod QueueCall
